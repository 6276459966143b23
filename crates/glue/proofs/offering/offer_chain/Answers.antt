use Rattle.std.proofs.Common.{sym, ◌∙◌, ap}
use Rattle.lolepop.specs.Derived.{under_glue}
use Rattle.glue.specs.Gluing.{is_wanted}
use Rattle.glue.proofs.ChainOffers.{not_wanted, glued_offered}
use Rattle.glue.proofs.offering.offer_chain.Goals as goal

pub returns-then-not-is_wanted : goal.returns-then-not-is_wanted
returns-then-not-is_wanted c =
    not_wanted _ _ _ _ _ _ (ap (λ v. is_wanted c.args.query.now c.args.costs.now c.args.require.now c.args.words.now v c.args.out.now) (sym c.props.ensures)
    ∙ sym c.is_wanted.ensures ∙ c.if-not-is_wanted.true)

pub returns : goal.returns
returns c =
    glued_offered _ _ _ _ _ c.in-Some.made c.in_ok-glued.glued c.args.out.now _ _
    (ap (λ v. is_wanted c.args.query.now c.args.costs.now c.args.require.now c.args.words.now v c.args.out.now) (sym c.props.ensures)
    ∙ sym c.is_wanted.ensures ∙ c.if-not-is_wanted.false)
    (sym c.in_ok-made.ensures ∙ c.in-Some.is)
    (c.in_ok-glued.ensures ∙ ap (λ chain. under_glue chain c.in-Some.made) c.chain_of.ensures) c.in_ok-offer.ensures.gathered
