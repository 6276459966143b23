use Rattle.star_model.proofs.Laws.{sum-le, difference-le, product-le, quotient-le}
use Rattle.star_model.proofs.theorems.results_rise_and_fall.Goals as goal

pub returns : goal.returns
returns c = record { sum = sum-le; difference = difference-le; product = product-le; quotient = quotient-le }
