use Rattle.star_expand.proofs.Laws.{closed_holds}
use Rattle.star_expand.proofs.theorems.closed_memos_hold_all.Goals as goal

pub returns : goal.returns
returns c = closed_holds
