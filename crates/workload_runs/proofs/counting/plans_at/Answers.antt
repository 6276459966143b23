use Rattle.std.proofs.Common.{◌≡◌, None, Some, length, ap, sym, ◌∙◌}
use Rattle.std.specs.Option.{option_map}
use Rattle.table_set_memo.specs.Memos.{GoalSet}
use Rattle.workload_runs.proofs.MemoCounts.{own_set}
use Rattle.workload_runs.proofs.counting.plans_at.Goals as goal

pub unreachable-requires : goal.unreachable-requires
unreachable-requires c =
    let own = own_set c.args.memo.now c.each_once.ensures c.args.place c.goal_at.result.now c.goal_at.ensures in
    let none = rw c.in-None.is at c.get.ensures in
    let bad : None ≡ Some own.0 = none ∙ own.1 in
    absurd cc

pub returns : goal.returns
returns c =
    let own = own_set c.args.memo.now c.each_once.ensures c.args.place c.goal_at.result.now c.goal_at.ensures in
    let found = rw c.in-Some.is at c.get.ensures in
    let both : Some c.in-Some.plans.now ≡ Some own.0 = found ∙ own.1 in
    let same : c.in-Some.plans.now ≡ own.0 = cc in
    ap (option_map (λ (s : GoalSet). length s.1)) own.2 ∙ ap (λ n. Some n) (sym (ap length same) ∙ sym c.len.ensures)
