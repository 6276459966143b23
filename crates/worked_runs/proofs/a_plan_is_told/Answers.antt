use Rattle.worked_runs.proofs.Witness.{some_told}
use Rattle.worked_runs.proofs.a_plan_is_told.Goals as goal

pub returns : goal.returns
returns c = some_told
