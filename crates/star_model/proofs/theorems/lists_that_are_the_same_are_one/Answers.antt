use Rattle.star_model.proofs.Laws.{same_are, same_self}
use Rattle.star_model.proofs.theorems.lists_that_are_the_same_are_one.Goals as goal

pub returns : goal.returns
returns c = record { one = same_are; itself = same_self }
