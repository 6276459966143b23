use Rattle.std.proofs.Common.{sym, ◌∙◌, ap}
use Rattle.star_model.specs.DerivCases as deriv
use Rattle.star_model.specs.DerivCases.{made-Glue, made-Goal, made-Reference, made-Unary, made-Binary}
use Rattle.lolepop.specs.Traces.{deriv_of}
use Rattle.lolepop.proofs.trace.+unshare.Goals as goal

pub Trace::unshare-returns-in_ok-boxed-in-Glue : goal.Trace::unshare-returns-in_ok-boxed-in-Glue
Trace::unshare-returns-in_ok-boxed-in-Glue t c =
    made-Glue _ _ ∙ (λ i. deriv.Glue (c.copied.ensures i) (c.in_ok-boxed-in-Glue.ensures i)) ∙ sym (ap deriv_of c.in-Glue.is)

pub Trace::unshare-returns-in_ok-boxed-in-Goal : goal.Trace::unshare-returns-in_ok-boxed-in-Goal
Trace::unshare-returns-in_ok-boxed-in-Goal t c =
    made-Goal _ _ _ ∙ ap (deriv.Goal c.in-Goal.goal c.in-Goal.split) c.in_ok-boxed-in-Goal.ensures ∙ sym (ap deriv_of c.in-Goal.is)

pub Trace::unshare-returns-in_ok-boxed-in-Reference : goal.Trace::unshare-returns-in_ok-boxed-in-Reference
Trace::unshare-returns-in_ok-boxed-in-Reference t c =
    made-Reference _ _ _ _
    ∙ (λ i. deriv.Reference (c.in_ok-copy-in-Reference.ensures i) c.in-Reference.alternative (c.copied-in-Reference.ensures i) (c.in_ok-boxed-in-Reference.ensures i))
    ∙ sym (ap deriv_of c.in-Reference.is)

pub Trace::unshare-returns-in_ok-boxed-in-Unary : goal.Trace::unshare-returns-in_ok-boxed-in-Unary
Trace::unshare-returns-in_ok-boxed-in-Unary t c =
    made-Unary _ _ ∙ ap (deriv.Unary c.in-Unary.flavour) c.in_ok-boxed-in-Unary.ensures ∙ sym (ap deriv_of c.in-Unary.is)

pub Trace::unshare-returns-in_ok-boxed-in-Binary-2 : goal.Trace::unshare-returns-in_ok-boxed-in-Binary-2
Trace::unshare-returns-in_ok-boxed-in-Binary-2 t c =
    made-Binary _ _ _ ∙ (λ i. deriv.Binary c.in-Binary.flavour (c.in_ok-boxed-in-Binary.ensures i) (c.in_ok-boxed-in-Binary-2.ensures i)) ∙ sym (ap deriv_of c.in-Binary.is)
