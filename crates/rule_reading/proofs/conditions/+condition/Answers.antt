use Rattle.std.proofs.Common.{arith}
use Rattle.rule_reading.proofs.Depth.{no_condition, deeper_condition}
use Rattle.rule_reading.proofs.conditions.+condition.Goals as goal

pub returns-then-depth-eq0 : goal.returns-then-depth-eq0
returns-then-depth-eq0 t c = no_condition _ _ _ (omega arith)

pub returns : goal.returns
returns t c = rw (deeper_condition c.args.scope.now c.args.depth c.args.cursor.now (omega arith)) c.condition.ensures
