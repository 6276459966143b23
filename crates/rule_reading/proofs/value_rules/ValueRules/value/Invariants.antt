use Rattle.std.proofs.Common.{length}
use Rattle.rule_grammar.specs.ValueReading.{value_at, value_by}
use Rattle.rule_reading.proofs.Requirements.{Goes}
use Rattle.rule_reading.proofs.value_rules.ValueRules.value.Given as goal

abbrev pub invariant-loop-cursor : goal.invariant-loop-cursor
invariant-loop-cursor g l = Goes (value_at l.self.scope.now l.self.depth) (value_by l.self.scope.now (value_at l.self.scope.now l.self.depth) l.fn.cursor) l.value l.cursor

abbrev pub decreases-loop-cursor : goal.decreases-loop-cursor
decreases-loop-cursor g l = length l.cursor
