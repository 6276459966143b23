use Rattle.sb_outside.proofs.Laws.{long_content}
use Rattle.sb_outside.proofs.theorems.long_content.Goals as goal

pub returns : goal.returns
returns c = long_content
