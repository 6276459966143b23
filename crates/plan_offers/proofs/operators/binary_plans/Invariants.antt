use Rattle.std.proofs.Common.{map, ◌≡◌, Some}
use Rattle.star_model.specs.Operators.{flavour_of}
use Rattle.dominance_prune.specs.Gathering.{Passes, From}
use Rattle.lolepop.specs.Derived.{is_better_plan, derived_binary}
use Rattle.plan_offers.proofs.operators.binary_plans.Given as goal

abbrev pub invariant-loop-left : goal.invariant-loop-left
invariant-loop-left l =
    Passes is_better_plan l.lefts (map (λ r. r.now) l.yielded) l.left-iterator.members.now l.initial.out l.out
    (λ f. From l.rights (λ r x. derived_binary l.query l.costs (flavour_of l.op) l.op f r ≡ Some x))
