use Rattle.lolepop.proofs.Laws.{one_serves, two_serve, chains_exchange, better_satisfies}
use Rattle.lolepop.proofs.theorems.better_inputs_serve.Goals as goal

pub returns : goal.returns
returns c = record { one = one_serves; two = two_serve; chains = chains_exchange; satisfying = better_satisfies }
