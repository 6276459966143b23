use Rattle.star_model.proofs.Laws.{sum-exact, difference-exact, product-exact, quotient-exact}
use Rattle.star_model.proofs.theorems.results_that_fit_are_exact.Goals as goal

pub returns : goal.returns
returns c = record { sum = sum-exact; difference = difference-exact; product = product-exact; quotient = quotient-exact }
