use Rattle.lolepop.proofs.Laws.{operator_flavour}
use Rattle.lolepop.proofs.theorems.operators_have_their_flavour.Goals as goal

pub returns : goal.returns
returns c = operator_flavour
