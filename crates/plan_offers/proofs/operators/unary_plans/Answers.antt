use Rattle.std.proofs.Common.{ap, ◌∙◌}
use Rattle.dominance_prune.specs.GatheringCases.{Passes-none, Passes-more, Passes-all}
use Rattle.plan_offers.proofs.Offering.{frontier_of}
use Rattle.plan_offers.proofs.operators.unary_plans.Goals as goal

pub loop-input-init : goal.loop-input-init
loop-input-init c =
    Passes-none _ _ _ _ _ (ap (λ s. s.members.now) c.into_iter-input-iterator.ensures.into_iter_gives ∙ c.iter-input-items.ensures)

pub loop-input-preserved : goal.loop-input-preserved
loop-input-preserved c = Passes-more _ _ _ c.in-Some.input _ _ _ _ _ _ c.in-Some.ensures.steps c.loop-input.invariant c.in_ok-offer_unary.ensures

pub returns : goal.returns
returns c = frontier_of _ _ _ c.new-out.ensures (Passes-all _ _ _ _ _ _ _ c.in-None.ensures.steps.0 c.loop-input.invariant) c.apart.ensures
