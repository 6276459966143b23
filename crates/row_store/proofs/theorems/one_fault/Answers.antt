use Rattle.row_store.proofs.Laws.{one_fault, one_or_none}
use Rattle.row_store.proofs.theorems.one_fault.Goals as goal

pub returns : goal.returns
returns c = record { at_most = one_fault; or_none = one_or_none }
