use Rattle.std.proofs.Common.{◌∙◌, refl}
use Rattle.star_model.specs.FormulaCases.{made-If}
use Rattle.cost_formula.proofs.nodes.chosen.Goals as goal

pub returns : goal.returns
returns c =
    made-If _ _ _ _ _ ∙ rw (c.in_ok-new.ensures, c.in_ok-new-2.ensures, c.in_ok-new-3.ensures, c.in_ok-new-4.ensures) refl
