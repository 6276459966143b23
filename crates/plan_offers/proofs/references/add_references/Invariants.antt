use Rattle.std.proofs.Common.{map, ◌≡◌}
use Rattle.dominance_prune.specs.Gathering.{Passes}
use Rattle.lolepop.specs.Derived.{is_better_plan, under_reference}
use Rattle.plan_offers.proofs.references.add_references.Given as goal

abbrev pub invariant-loop-plan : goal.invariant-loop-plan
invariant-loop-plan l =
    Passes is_better_plan l.plans (map (λ r. r.now) l.yielded) l.plan-iterator.members.now l.initial.out l.out
    (λ i x. x ≡ under_reference l.star l.number l.picked i)
