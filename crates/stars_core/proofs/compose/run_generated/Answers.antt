use Rattle.stars_core.proofs.WorkloadRuns.{generated_ran}
use Rattle.stars_core.proofs.compose.run_generated.Goals as goal

pub returns : goal.returns
returns c =
    let is = c.in_ok-answer.ensures in
    λ state. generated_ran c.args.seed c.args.size state c.in_ok-answer.answer.ending c.in_ok-answer.answer.text.items c.of.result is.1 c.of.ensures.ending c.of.ensures.pieces
