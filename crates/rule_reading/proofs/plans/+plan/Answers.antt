use Rattle.std.proofs.Common.{arith}
use Rattle.rule_reading.proofs.PlanDepth.{at_none, at_some}
use Rattle.rule_reading.proofs.plans.+plan.Goals as goal

pub returns-then-depth-eq0 : goal.returns-then-depth-eq0
returns-then-depth-eq0 t c = at_none _ _ _ (omega arith)

pub returns : goal.returns
returns t c = rw (at_some c.args.scope.now c.args.depth c.args.cursor.now (omega arith)) c.plan.ensures
