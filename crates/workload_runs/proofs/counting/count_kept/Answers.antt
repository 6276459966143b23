use Rattle.std.proofs.Common.{sym, subst}
use Rattle.workload_runs.specs.AskedFrontiers.{IsKept}
use Rattle.workload_runs.specs.Counts.{IsCountOf}
use Rattle.workload_runs.proofs.MemoCounts.{kept_counted}
use Rattle.workload_runs.proofs.counting.count_kept.Goals as goal

pub returns : goal.returns
returns c q rules goals frontiers =
    subst (IsCountOf (IsKept q rules)) (sym c.count_plans.ensures) (kept_counted q rules c.args.memo.now c.each_once.ensures goals frontiers)
