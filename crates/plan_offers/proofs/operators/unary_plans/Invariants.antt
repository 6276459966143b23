use Rattle.std.proofs.Common.{map, ◌≡◌, Some}
use Rattle.star_model.specs.Operators.{flavour_of}
use Rattle.dominance_prune.specs.Gathering.{Passes}
use Rattle.lolepop.specs.Derived.{is_better_plan, derived_unary}
use Rattle.plan_offers.proofs.operators.unary_plans.Given as goal

abbrev pub invariant-loop-input : goal.invariant-loop-input
invariant-loop-input l =
    Passes is_better_plan l.inputs (map (λ r. r.now) l.yielded) l.input-iterator.members.now l.initial.out l.out
    (λ i x. derived_unary l.query l.costs (flavour_of l.op) l.op i ≡ Some x)
