use Rattle.lolepop.proofs.Laws.{leaf_fits, unary_fits, binary_fits}
use Rattle.lolepop.proofs.theorems.operators_fit_over_what_fits.Goals as goal

pub returns : goal.returns
returns c = record { leaf = leaf_fits; unary = unary_fits; binary = binary_fits }
