use Rattle.exchange.proofs.Laws.{root_vector, cheapest_is_least, no_root}
use Rattle.exchange.proofs.theorems.the_cheapest_costs_least.Goals as goal

pub returns : goal.returns
returns c = record { root = root_vector; least = cheapest_is_least; none = no_root }
