use Rattle.row_store.proofs.Laws.{clear_rows_are}
use Rattle.row_store.proofs.theorems.records_without_fault_hold_rows.Goals as goal

pub returns : goal.returns
returns c = clear_rows_are
