use Rattle.star_model.proofs.Laws.{least_is_equal, none_is_lower}
use Rattle.star_model.proofs.theorems.least_equal_columns_are_least.Goals as goal

pub returns : goal.returns
returns c = record { equal = least_is_equal; least = none_is_lower }
