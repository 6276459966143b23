use Rattle.sb_outside.proofs.Laws.{fails_on}
use Rattle.sb_outside.proofs.theorems.fails_on.Goals as goal

pub returns : goal.returns
returns c = fails_on
