use Rattle.exchange.proofs.Laws.{leaf_ways, unary_ways, binary_ways}
use Rattle.exchange.proofs.theorems.operators_make_plans.Goals as goal

pub returns : goal.returns
returns c = record { none = leaf_ways; one = unary_ways; two = binary_ways }
