use Rattle.worked_runs.proofs.RunWitness.{some_run_told}
use Rattle.worked_runs.proofs.a_run_is_told.Goals as goal

pub returns : goal.returns
returns c = some_run_told
