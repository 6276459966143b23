use Rattle.star_model.proofs.Laws.{union-lt, meet-lt, minus-lt, single-lt, set_of-lt}
use Rattle.star_model.proofs.theorems.sets_fit.Goals as goal

pub returns : goal.returns
returns c = record { union = union-lt; meet = meet-lt; minus = minus-lt; single = single-lt; set_of = set_of-lt }
