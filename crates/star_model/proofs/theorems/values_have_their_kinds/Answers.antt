use Rattle.star_model.proofs.Laws.{means}
use Rattle.star_model.proofs.theorems.values_have_their_kinds.Goals as goal

pub returns : goal.returns
returns c = means
