use Rattle.std.proofs.Common.{map, ◌≡◌, Some}
use Rattle.star_model.specs.Operators.{flavour_of}
use Rattle.dominance_prune.specs.Gathering.{Passes}
use Rattle.lolepop.specs.Derived.{is_better_plan, derived_binary}
use Rattle.plan_offers.proofs.operators.offer_beside.Given as goal

abbrev pub invariant-loop-right : goal.invariant-loop-right
invariant-loop-right l =
    Passes is_better_plan l.rights (map (λ r. r.now) l.yielded) l.right-iterator.members.now l.initial.out l.out
    (λ r x. derived_binary l.query l.costs (flavour_of l.op) l.op l.left r ≡ Some x)
