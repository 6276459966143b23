use Rattle.std.proofs.Common.{map}
use Rattle.dominance_prune.specs.Gathering.{Passes}
use Rattle.lolepop.specs.Derived.{is_better_plan}
use Rattle.glue.specs.Gluing.{ChainsTo}
use Rattle.glue.proofs.offering.add_chain.Given as goal

abbrev pub invariant-loop-plan : goal.invariant-loop-plan
invariant-loop-plan l =
    Passes is_better_plan l.plans (map (λ r. r.now) l.yielded) l.plan-iterator.members.now l.initial.out l.out (ChainsTo l.query l.costs l.require l.words)
