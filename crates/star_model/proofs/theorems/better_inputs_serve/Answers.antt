use Rattle.star_model.proofs.Laws.{operators_exchange, chains_exchange, better_satisfies}
use Rattle.star_model.proofs.theorems.better_inputs_serve.Goals as goal

pub returns : goal.returns
returns c = record { operators = operators_exchange; chains = chains_exchange; satisfying = better_satisfies }
