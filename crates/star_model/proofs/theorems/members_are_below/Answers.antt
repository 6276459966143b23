use Rattle.star_model.proofs.Laws.{kept_below, members_below}
use Rattle.star_model.proofs.theorems.members_are_below.Goals as goal

pub returns : goal.returns
returns c = record { kept = kept_below; members = members_below }
