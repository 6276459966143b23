use Rattle.property_vector.proofs.Laws.{equal_by_better}
use Rattle.property_vector.proofs.theorems.better_is_antisymmetric.Goals as goal

pub returns : goal.returns
returns c = equal_by_better
