use Rattle.std.proofs.Common.{length, codes}
use Rattle.spelling.specs.Reading.{the_symbol}
use Rattle.spelling.specs.SeriesReadingCases.{Stands}
use Rattle.rule_grammar.specs.StarReading.{alternative_at, names_of}
use Rattle.rule_reading.proofs.alternatives.alternatives.Given as goal

abbrev pub invariant-loop-alternatives : goal.invariant-loop-alternatives
invariant-loop-alternatives l = Stands (alternative_at (names_of l.version l.params) l.depth) (the_symbol (codes "|")) l.fn.cursor l.alternatives l.cursor

abbrev pub decreases-loop-alternatives : goal.decreases-loop-alternatives
decreases-loop-alternatives l = length l.cursor
