use Rattle.sb_text.proofs.Laws.{fault_of-accepted}
use Rattle.sb_text.proofs.theorems.text_without_fault_is_accepted.Goals as goal

pub returns : goal.returns
returns c = fault_of-accepted
