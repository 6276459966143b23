use Rattle.std.proofs.Common.{arith}
use Rattle.workload_runs.proofs.MemoCounts.{one_set_more}
use Rattle.workload_runs.proofs.counting.count_plans.Goals as goal

pub loop-place-preserved : goal.loop-place-preserved
loop-place-preserved c =
    let more = one_set_more c.args.memo.now c.loop-place.place c.plans_at.result c.plans_at.ensures in
    let was = c.loop-place.invariant in
    let own = c.plans_at.type_inv in
    record { count = omega (arith, more, was.count); few = omega (arith, was.few, own) }
