use Rattle.lolepop.proofs.Laws.{leaf_gives, unary_gives, binary_gives, enforced_gives}
use Rattle.lolepop.proofs.theorems.operators_give_their_vectors.Goals as goal

pub returns : goal.returns
returns c = record { leaf = leaf_gives; unary = unary_gives; binary = binary_gives; enforced = enforced_gives }
