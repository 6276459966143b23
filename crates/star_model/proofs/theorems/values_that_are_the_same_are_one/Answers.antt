use Rattle.star_model.proofs.Laws.{values_are}
use Rattle.star_model.proofs.theorems.values_that_are_the_same_are_one.Goals as goal

pub returns : goal.returns
returns c = values_are
