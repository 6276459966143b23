use Rattle.row_store.proofs.Laws.{rows_loaded}
use Rattle.row_store.proofs.theorems.rows_are_loaded.Goals as goal

pub returns : goal.returns
returns c = rows_loaded
