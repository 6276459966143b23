use Rattle.std.proofs.Common.{length}
use Rattle.rule_grammar.specs.StarReading.{names_of}
use Rattle.rule_reading.proofs.ForAlls.{Going}
use Rattle.rule_reading.proofs.for_alls.ranges.Given as goal

abbrev pub invariant-clauses : goal.invariant-clauses
invariant-clauses l = Going (names_of l.version l.params) l.depth l.fn.cursor l.ranges l.cursor

abbrev pub decreases-clauses : goal.decreases-clauses
decreases-clauses l = length l.cursor
