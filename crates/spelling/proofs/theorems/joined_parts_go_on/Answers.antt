use Rattle.spelling.proofs.Laws.{joined-first}
use Rattle.spelling.proofs.theorems.joined_parts_go_on.Goals as goal

pub returns : goal.returns
returns c = joined-first
