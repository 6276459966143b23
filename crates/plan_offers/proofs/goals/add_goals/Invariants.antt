use Rattle.std.proofs.Common.{map, ◌≡◌, true}
use Rattle.dominance_prune.specs.Gathering.{Passes}
use Rattle.lolepop.specs.Derived.{is_better_plan, vector_of, under_goal}
use Rattle.plan_offers.specs.Targets.{meets_target}
use Rattle.plan_offers.proofs.goals.add_goals.Given as goal

abbrev pub invariant-loop-plan : goal.invariant-loop-plan
invariant-loop-plan l =
    Passes is_better_plan l.plans (map (λ r. r.now) l.yielded) l.plan-iterator.members.now l.initial.out l.out
    (λ i x. (meets_target l.target (vector_of i) ≡ true) × (x ≡ under_goal l.target.goal l.split i))
