use Rattle.star_model.proofs.Laws.{monotone}
use Rattle.star_model.proofs.theorems.passing_is_monotone.Goals as goal

pub returns : goal.returns
returns c = monotone
