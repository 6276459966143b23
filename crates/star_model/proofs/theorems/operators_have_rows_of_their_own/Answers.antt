use Rattle.star_model.proofs.Laws.{one_row, one_flavour}
use Rattle.star_model.proofs.theorems.operators_have_rows_of_their_own.Goals as goal

pub returns : goal.returns
returns c = record { row = one_row; same = one_flavour }
