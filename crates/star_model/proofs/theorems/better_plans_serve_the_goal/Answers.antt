use Rattle.star_model.proofs.Laws.{better_costs, better_meets}
use Rattle.star_model.proofs.theorems.better_plans_serve_the_goal.Goals as goal

pub returns : goal.returns
returns c = record { cost = better_costs; target = better_meets }
