use Rattle.std.proofs.Common.{length, codes}
use Rattle.spelling.specs.Reading.{the_symbol}
use Rattle.spelling.specs.SeriesReadingCases.{Stands}
use Rattle.rule_grammar.specs.StarReading.{parameter_at}
use Rattle.rule_reading.proofs.stars.parameters.Given as goal

abbrev pub invariant-loop-parameters : goal.invariant-loop-parameters
invariant-loop-parameters l = Stands (parameter_at l.version) (the_symbol (codes ",")) l.fn.cursor l.parameters l.cursor

abbrev pub decreases-loop-parameters : goal.decreases-loop-parameters
decreases-loop-parameters l = length l.cursor
