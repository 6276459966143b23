use Rattle.derivation_reading.proofs.Laws.{few_nodes}
use Rattle.derivation_reading.proofs.theorems.derivations_have_few_nodes.Goals as goal

pub returns : goal.returns
returns c = few_nodes
