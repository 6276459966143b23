use Rattle.std.proofs.Common.{refl, sym, ◌∙◌, ap}
use Rattle.lolepop.specs.Derived.{unary_plan}
use Rattle.plan_offers.proofs.Offering.{made_covered, made_offered}
use Rattle.plan_offers.proofs.operators.offer_unary.Goals as goal

pub returns-then-is_covered : goal.returns-then-is_covered
returns-then-is_covered c =
    made_covered (λ v. unary_plan c.args.op.now v c.args.input.now) (λ _. refl) _ c.in-Some.props _ (sym c.in-Some.ensures) (sym c.is_covered.ensures ∙ c.if-is_covered.true)

pub returns : goal.returns
returns c =
    made_offered (λ v. unary_plan c.args.op.now v c.args.input.now) _ c.in-Some.props c.in_ok-entry.entry _ _ (sym c.in-Some.ensures)
    (c.in_ok-entry.ensures ∙ ap (λ o. unary_plan o c.in-Some.props c.args.input.now) c.copied_op.ensures) c.in_ok-offer.ensures.gathered
