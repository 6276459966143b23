use Rattle.std.proofs.Common.{length, map, codes}
use Rattle.spelling.specs.Reading.{the_symbol}
use Rattle.spelling.specs.SeriesReadingCases.{Stands}
use Rattle.query_graph.specs.Words.{said_column}
use Rattle.query_graph.specs.StatementReading.{column_at}
use Rattle.query_graph.proofs.columns.columns.Given as goal

abbrev pub invariant-loop-columns : goal.invariant-loop-columns
invariant-loop-columns l = Stands column_at (the_symbol (codes ",")) l.fn.cursor (map said_column l.columns) l.cursor

abbrev pub decreases-loop-columns : goal.decreases-loop-columns
decreases-loop-columns l = length l.cursor
