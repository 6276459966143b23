use Rattle.sb_outside.proofs.Laws.{goes_on}
use Rattle.sb_outside.proofs.theorems.goes_on.Goals as goal

pub returns : goal.returns
returns c = goes_on
