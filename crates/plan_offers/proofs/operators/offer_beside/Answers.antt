use Rattle.std.proofs.Common.{ap, ◌∙◌}
use Rattle.dominance_prune.specs.GatheringCases.{Passes-none, Passes-more, Passes-all}
use Rattle.plan_offers.proofs.operators.offer_beside.Goals as goal

pub loop-right-init : goal.loop-right-init
loop-right-init c =
    Passes-none _ _ _ _ _ (ap (λ s. s.members.now) c.into_iter-right-iterator.ensures.into_iter_gives ∙ c.iter-right-items.ensures)

pub loop-right-preserved : goal.loop-right-preserved
loop-right-preserved c = Passes-more _ _ _ c.in-Some.right _ _ _ _ _ _ c.in-Some.ensures.steps c.loop-right.invariant c.in_ok-offer_binary.ensures

pub returns : goal.returns
returns c = Passes-all _ _ _ _ _ _ _ c.in-None.ensures.steps.0 c.loop-right.invariant
