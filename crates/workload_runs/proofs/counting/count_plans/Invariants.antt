use Rattle.std.proofs.Common.{◌≡◌, ◌≤◌, ◌*◌, ◌-◌, ◌^◌, length, sum_by, take}
use Rattle.workload_runs.proofs.counting.count_plans.Given as goal

-- each of the sets so far has fewer than 2^64 plans
abbrev pub invariant-loop-place : goal.invariant-loop-place
invariant-loop-place l = record { count : l.count ≡ sum_by (λ s. length s.1) (take l.place l.memo); few : l.count ≤ l.place * (2 ^ 64 - 1) }
