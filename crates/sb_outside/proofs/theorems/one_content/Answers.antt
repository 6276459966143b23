use Rattle.sb_outside.proofs.Laws.{one_content}
use Rattle.sb_outside.proofs.theorems.one_content.Goals as goal

pub returns : goal.returns
returns c = one_content
