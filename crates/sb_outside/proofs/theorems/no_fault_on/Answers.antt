use Rattle.sb_outside.proofs.Laws.{no_fault_on}
use Rattle.sb_outside.proofs.theorems.no_fault_on.Goals as goal

pub returns : goal.returns
returns c = no_fault_on
