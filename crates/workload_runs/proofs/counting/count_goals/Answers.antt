use Rattle.std.proofs.Common.{sym, subst}
use Rattle.workload_runs.specs.AskedFrontiers.{IsAsked}
use Rattle.workload_runs.specs.Counts.{IsCountOf}
use Rattle.workload_runs.proofs.MemoCounts.{goals_counted}
use Rattle.workload_runs.proofs.counting.count_goals.Goals as goal

pub returns : goal.returns
returns c q rules goals = subst (IsCountOf (IsAsked q rules)) (sym c.len.ensures) (goals_counted q rules c.args.memo.now c.each_once.ensures goals)
