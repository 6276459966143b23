use Rattle.star_model.proofs.Laws.{sum-cut, difference-cut, product-cut, quotient-cut}
use Rattle.star_model.proofs.theorems.results_are_cut.Goals as goal

pub returns : goal.returns
returns c = record { sum = sum-cut; difference = difference-cut; product = product-cut; quotient = quotient-cut }
