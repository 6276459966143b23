use Rattle.std.proofs.Common.{◌≡◌, true, false, sym, ◌∙◌, ap}
use Rattle.lolepop.specs.Derived.{vector_of}
use Rattle.dominance_prune.specs.GatheringCases.{Gathers-nothing}
use Rattle.plan_offers.specs.Targets.{meets_target}
use Rattle.plan_offers.proofs.Offering.{offers_covered, offered_where}
use Rattle.plan_offers.proofs.goals.offer_goal.Goals as goal

clash : true ≡ false → ⊥
clash h = absurd (cc)

pub returns-then-not-is_met : goal.returns-then-not-is_met
returns-then-not-is_met c =
    Gathers-nothing _ _ _
    (λ x h. clash (sym h.0 ∙ ap (meets_target c.args.target.now) (sym c.props-props.ensures) ∙ sym c.is_met.ensures ∙ c.if-not-is_met.true))

pub returns-then-is_covered : goal.returns-then-is_covered
returns-then-is_covered c =
    offers_covered _ _ _ (sym c.is_covered.ensures ∙ c.if-is_covered.true) (λ x h. c.props-props.ensures ∙ sym (ap vector_of h.1))

pub returns : goal.returns
returns c =
    offered_where _ c.in_ok-entry.entry _ _ _
    (ap (meets_target c.args.target.now) (sym c.props-props.ensures) ∙ sym c.is_met.ensures ∙ c.if-not-is_met.false) c.in_ok-entry.ensures
    c.in_ok-offer.ensures.gathered
