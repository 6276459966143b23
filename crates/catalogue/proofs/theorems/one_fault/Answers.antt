use Rattle.catalogue.proofs.Laws.{one_fault}
use Rattle.catalogue.proofs.theorems.one_fault.Goals as goal

pub returns : goal.returns
returns c = one_fault
