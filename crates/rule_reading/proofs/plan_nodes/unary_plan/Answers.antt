use Rattle.star_model.specs.PlanExprCases.{made-Unary}
use Rattle.rule_reading.proofs.plan_nodes.unary_plan.Goals as goal

pub returns : goal.returns
returns c = made-Unary _ _ _
