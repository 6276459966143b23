use Rattle.std.proofs.Common.{length, map, codes}
use Rattle.spelling.specs.Reading.{the_word}
use Rattle.spelling.specs.SeriesReadingCases.{Stands}
use Rattle.query_graph.specs.Words.{said_comparison}
use Rattle.query_graph.specs.StatementReading.{comparison_at}
use Rattle.query_graph.proofs.comparisons.comparisons.Given as goal

abbrev pub invariant-loop-comparisons : goal.invariant-loop-comparisons
invariant-loop-comparisons l = Stands comparison_at (the_word (codes "and")) l.fn.cursor (map said_comparison l.comparisons) l.cursor

abbrev pub decreases-loop-comparisons : goal.decreases-loop-comparisons
decreases-loop-comparisons l = length l.cursor
