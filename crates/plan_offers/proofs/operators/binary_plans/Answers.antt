use Rattle.std.proofs.Common.{ap, ◌∙◌}
use Rattle.dominance_prune.specs.GatheringCases.{Passes-none, Passes-more, Passes-all}
use Rattle.plan_offers.proofs.Offering.{frontier_of}
use Rattle.plan_offers.proofs.operators.binary_plans.Goals as goal

pub loop-left-init : goal.loop-left-init
loop-left-init c =
    Passes-none _ _ _ _ _ (ap (λ s. s.members.now) c.into_iter-left-iterator.ensures.into_iter_gives ∙ c.iter-left-items.ensures)

pub loop-left-preserved : goal.loop-left-preserved
loop-left-preserved c = Passes-more _ _ _ c.in-Some.left _ _ _ _ _ _ c.in-Some.ensures.steps c.loop-left.invariant c.in_ok-offer_beside.ensures

pub returns : goal.returns
returns c = frontier_of _ _ _ c.new-out.ensures (Passes-all _ _ _ _ _ _ _ c.in-None.ensures.steps.0 c.loop-left.invariant) c.apart.ensures
