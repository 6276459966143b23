use Rattle.exchange.proofs.Laws.{has_vector, plan_of_vector, same_plan, has_card}
use Rattle.exchange.proofs.theorems.each_derivation_has_one_plan.Goals as goal

pub returns : goal.returns
returns c = record { vector = has_vector; some = plan_of_vector; one = same_plan; rows = has_card }
