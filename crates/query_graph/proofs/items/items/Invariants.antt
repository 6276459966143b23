use Rattle.std.proofs.Common.{length, map, codes}
use Rattle.spelling.specs.Reading.{the_symbol}
use Rattle.spelling.specs.SeriesReadingCases.{Stands}
use Rattle.query_graph.specs.Words.{said_item}
use Rattle.query_graph.specs.StatementReading.{item_at}
use Rattle.query_graph.proofs.items.items.Given as goal

abbrev pub invariant-loop-items : goal.invariant-loop-items
invariant-loop-items l = Stands item_at (the_symbol (codes ",")) l.fn.cursor (map said_item l.items) l.cursor

abbrev pub decreases-loop-items : goal.decreases-loop-items
decreases-loop-items l = length l.cursor
