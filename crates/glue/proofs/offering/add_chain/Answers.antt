use Rattle.std.proofs.Common.{ap, sym, ◌∙◌}
use Rattle.dominance_prune.specs.GatheringCases.{Gathers-same, Passes-none, Passes-more, Passes-all}
use Rattle.glue.proofs.offering.add_chain.Goals as goal

pub loop-plan-init : goal.loop-plan-init
loop-plan-init c = Passes-none _ _ _ _ _ (ap (λ s. s.members.now) c.into_iter-plan-iterator.ensures.into_iter_gives ∙ c.iter-plan-items.ensures)

pub loop-plan-preserved : goal.loop-plan-preserved
loop-plan-preserved c = Passes-more _ _ _ c.in-Some.plan _ _ _ _ _ _ c.in-Some.ensures.steps c.loop-plan.invariant c.in_ok-offer_chain.ensures

pub returns : goal.returns
returns c =
    Gathers-same _ _ _ _ _ (λ x made. (sym c.is_chain.ensures ∙ c.if-not-is_chain.false, made)) (λ x made. made.1)
    (Passes-all _ _ _ _ _ _ _ c.in-None.ensures.steps.0 c.loop-plan.invariant)
