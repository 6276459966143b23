use Rattle.workload_runs.proofs.Laws.{one_run}
use Rattle.workload_runs.proofs.theorems.one_run.Goals as goal

pub returns : goal.returns
returns c = one_run
