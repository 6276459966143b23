use Rattle.star_model.proofs.Laws.{member_has_kind, members_have_kind, member_passes, members_pass, few_members_of}
use Rattle.star_model.proofs.theorems.ranges_have_members_of_their_kind.Goals as goal

pub returns : goal.returns
returns c = record { kind = members_have_kind; streams = members_pass; member = member_has_kind; no_stream = member_passes; few = few_members_of }
