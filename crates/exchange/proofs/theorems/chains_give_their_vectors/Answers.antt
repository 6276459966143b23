use Rattle.exchange.proofs.Laws.{chained_vector, chained_some}
use Rattle.exchange.proofs.theorems.chains_give_their_vectors.Goals as goal

pub returns : goal.returns
returns c = record { vector = chained_vector; some = chained_some }
