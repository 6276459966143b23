use Rattle.std.proofs.Common.{◌≡◌, sym, ◌∙◌, ap}
use Rattle.lolepop.specs.Derived.{vector_of, under_reference}
use Rattle.plan_offers.proofs.Offering.{offers_covered, offered_as}
use Rattle.plan_offers.proofs.references.offer_reference.Goals as goal

pub returns-then-is_covered : goal.returns-then-is_covered
returns-then-is_covered c =
    offers_covered (λ x. x ≡ under_reference c.args.star.now c.args.number c.args.picked.now c.args.plan.now) _ _ (sym c.is_covered.ensures ∙ c.if-is_covered.true)
    (λ x same. c.props.ensures ∙ sym (ap vector_of same))

pub returns : goal.returns
returns c =
    offered_as c.in_ok-entry.entry _ _ _ (c.in_ok-entry.ensures ∙ (λ i. under_reference (c.in_ok-copy.ensures i) c.args.number (c.copied.ensures i) c.args.plan.now))
    c.in_ok-offer.ensures.gathered
