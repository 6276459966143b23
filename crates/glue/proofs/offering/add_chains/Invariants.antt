use Rattle.std.proofs.Common.{map, take}
use Rattle.dominance_prune.specs.Gathering.{Gathers, From}
use Rattle.lolepop.specs.Derived.{is_better_plan}
use Rattle.glue.specs.Gluing.{ChainsOver}
use Rattle.glue.proofs.offering.add_chains.Given as goal

abbrev pub invariant-loop-words : goal.invariant-loop-words
invariant-loop-words l =
    Gathers is_better_plan l.initial.out l.out (From (take l.words-index (map (λ words. words.now) l.lists)) (ChainsOver l.query l.costs l.require l.plans))
