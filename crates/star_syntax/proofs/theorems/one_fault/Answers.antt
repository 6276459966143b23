use Rattle.star_syntax.proofs.Laws.{one_fault}
use Rattle.star_syntax.proofs.theorems.one_fault.Goals as goal

pub returns : goal.returns
returns c = one_fault
