use Rattle.exchange.proofs.Laws.{leaf_exchange, unary_exchange, binary_exchange, binary_nothing}
use Rattle.exchange.proofs.theorems.operators_exchange.Goals as goal

pub returns : goal.returns
returns c = record { none = leaf_exchange; one = unary_exchange; two = binary_exchange; nothing = binary_nothing }
