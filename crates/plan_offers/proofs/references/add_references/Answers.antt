use Rattle.std.proofs.Common.{ap, ◌∙◌}
use Rattle.dominance_prune.specs.GatheringCases.{Passes-none, Passes-more, Passes-all}
use Rattle.plan_offers.proofs.references.add_references.Goals as goal

pub loop-plan-init : goal.loop-plan-init
loop-plan-init c =
    Passes-none _ _ _ _ _ (ap (λ s. s.members.now) c.into_iter-plan-iterator.ensures.into_iter_gives ∙ c.iter-plan-items.ensures)

pub loop-plan-preserved : goal.loop-plan-preserved
loop-plan-preserved c = Passes-more _ _ _ c.in-Some.plan _ _ _ _ _ _ c.in-Some.ensures.steps c.loop-plan.invariant c.in_ok-offer_reference.ensures

pub returns : goal.returns
returns c = Passes-all _ _ _ _ _ _ _ c.in-None.ensures.steps.0 c.loop-plan.invariant
