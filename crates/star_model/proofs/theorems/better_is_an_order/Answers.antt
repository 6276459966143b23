use Rattle.star_model.proofs.Laws.{better_reflexive, better_transitive, better_antisymmetric}
use Rattle.star_model.proofs.theorems.better_is_an_order.Goals as goal

pub returns : goal.returns
returns c = record { reflexive = better_reflexive; transitive = better_transitive; antisymmetric = better_antisymmetric }
