use Rattle.star_model.proofs.Laws.{part_is_smaller, left_is_smaller, right_is_smaller}
use Rattle.star_model.proofs.theorems.parts_are_smaller.Goals as goal

pub returns : goal.returns
returns c = record { part = part_is_smaller; left = left_is_smaller; right = right_is_smaller }
