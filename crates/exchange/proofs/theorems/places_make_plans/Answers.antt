use Rattle.exchange.proofs.Laws.{glue_ways, call_ways, reference_ways, goal_ways}
use Rattle.exchange.proofs.theorems.places_make_plans.Goals as goal

pub returns : goal.returns
returns c = record { glue = glue_ways; call = call_ways; reference = reference_ways; goal = goal_ways }
