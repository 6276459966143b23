use Rattle.workload_runs.proofs.Laws.{rows_held}
use Rattle.workload_runs.proofs.theorems.records_hold_rows.Goals as goal

pub returns : goal.returns
returns c = rows_held
