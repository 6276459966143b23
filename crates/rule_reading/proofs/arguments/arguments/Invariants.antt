use Rattle.std.proofs.Common.{length, codes}
use Rattle.spelling.specs.Reading.{the_symbol}
use Rattle.spelling.specs.SeriesReadingCases.{Stands}
use Rattle.rule_grammar.specs.ValueReading.{value_at}
use Rattle.rule_reading.proofs.arguments.arguments.Given as goal

abbrev pub invariant-loop-arguments : goal.invariant-loop-arguments
invariant-loop-arguments l = Stands (value_at l.scope l.depth) (the_symbol (codes ",")) l.fn.cursor l.arguments l.cursor

abbrev pub decreases-loop-arguments : goal.decreases-loop-arguments
decreases-loop-arguments l = length l.cursor
