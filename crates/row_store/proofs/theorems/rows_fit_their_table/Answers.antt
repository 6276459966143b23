use Rattle.row_store.proofs.Laws.{rows_fit}
use Rattle.row_store.proofs.theorems.rows_fit_their_table.Goals as goal

pub returns : goal.returns
returns c = rows_fit
