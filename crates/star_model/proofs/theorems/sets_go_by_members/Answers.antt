use Rattle.star_model.proofs.Laws.{has-zero, has-union, has-meet, has-minus, has-single, has-set_of, has-above, within-members, same_set}
use Rattle.star_model.proofs.theorems.sets_go_by_members.Goals as goal

pub returns : goal.returns
returns c = record { empty = has-zero; union = has-union; meet = has-meet; minus = has-minus; single = has-single; set_of = has-set_of; beyond = has-above; within = within-members; same = same_set }
