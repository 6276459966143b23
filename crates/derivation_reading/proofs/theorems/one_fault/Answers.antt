use Rattle.derivation_reading.proofs.Laws.{one_fault}
use Rattle.derivation_reading.proofs.theorems.one_fault.Goals as goal

pub returns : goal.returns
returns c = one_fault
