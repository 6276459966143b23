use Rattle.std.proofs.Common.{length, codes}
use Rattle.spelling.specs.Reading.{the_symbol, a_word}
use Rattle.spelling.specs.SeriesReadingCases.{Stands}
use Rattle.catalogue.proofs.statement.names.Given as goal

abbrev pub invariant-loop-names : goal.invariant-loop-names
invariant-loop-names l = Stands a_word (the_symbol (codes ",")) l.fn.cursor l.names l.cursor

abbrev pub decreases-loop-names : goal.decreases-loop-names
decreases-loop-names l = length l.cursor
