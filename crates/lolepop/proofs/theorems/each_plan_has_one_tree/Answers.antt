use Rattle.lolepop.proofs.Laws.{fits_vector, tree_exists, one_tree}
use Rattle.lolepop.proofs.theorems.each_plan_has_one_tree.Goals as goal

pub returns : goal.returns
returns c = record { vector = fits_vector; some = tree_exists; one = one_tree }
