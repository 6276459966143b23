use Rattle.sb_outside.proofs.Laws.{no_call}
use Rattle.sb_outside.proofs.theorems.no_call.Goals as goal

pub returns : goal.returns
returns c = no_call
