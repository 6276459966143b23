use Rattle.std.proofs.Common.{◌≡◌, ◌∷◌, [], sym, ◌∙◌, ap}
use Rattle.star_model.specs.Operators.{step}
use Rattle.lolepop.specs.PlanTrees.{Binary, top_vector}
use Rattle.lolepop.proofs.FitLaws.{binary_fits}
use Rattle.lolepop.proofs.applying.binary.Goals as goal

pub returns-clause-fits : goal.returns-clause-fits
returns-clause-fits c =
    let left = c.args.left.now.value in
    let right = c.args.right.now.value in
    let vector_left : top_vector left ≡ c.props.result.now = sym (c.props.ensures ∙ ap top_vector c.deref.ensures) in
    let vector_right : top_vector right ≡ c.props-2.result.now = sym (c.props-2.ensures ∙ ap top_vector c.deref-2.ensures) in
    let node : c.in_ok-new.field-0.value ≡ Binary c.args.op c.in-Some.props left right =
    cc (c.in_ok-new.ensures.ok, c.binary-node.ensures, c.in_ok-clone.ensures.cases, c.in_ok-clone-2.ensures.cases) in
    rw node
    (binary_fits _ _ _ _ _ _ c.requires.left c.requires.right
    ((λ i. step c.args.query.now c.args.costs.now c.args.op (vector_left i ∷ vector_right i ∷ [])) ∙ sym c.in-Some.ensures))
