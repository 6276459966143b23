use Rattle.star_model.specs.PlanExprCases.{made-Binary}
use Rattle.rule_reading.proofs.plan_nodes.binary_plan.Goals as goal

pub returns : goal.returns
returns c = made-Binary _ _ _ _
