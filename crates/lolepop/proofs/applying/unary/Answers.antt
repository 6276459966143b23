use Rattle.std.proofs.Common.{◌≡◌, ◌∷◌, [], sym, ◌∙◌, ap}
use Rattle.star_model.specs.Operators.{step}
use Rattle.lolepop.specs.PlanTrees.{Unary, top_vector}
use Rattle.lolepop.proofs.FitLaws.{unary_fits}
use Rattle.lolepop.proofs.applying.unary.Goals as goal

pub returns-clause-fits : goal.returns-clause-fits
returns-clause-fits c =
    let below = c.args.input.now.value in
    let vector : c.props.result.now ≡ top_vector below = c.props.ensures ∙ ap top_vector c.deref.ensures in
    let node : c.in_ok-new.field-0.value ≡ Unary c.args.op c.in-Some.props below = cc (c.in_ok-new.ensures.ok, c.unary.ensures, c.in_ok-clone.ensures.cases) in
    rw node (unary_fits _ _ _ _ _ c.requires.input (ap (λ v. step c.args.query.now c.args.costs.now c.args.op (v ∷ [])) (sym vector) ∙ sym c.in-Some.ensures))
