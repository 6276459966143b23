use Rattle.std.proofs.Common.{◌∙◌, sym, ap}
use Rattle.star_model.specs.Formulas.{value}
use Rattle.star_model.specs.Operators.{vars_of}
use Rattle.lolepop.specs.Inputs.{vectors}
use Rattle.lolepop.proofs.WidthLaws.{value_same}
use Rattle.lolepop.proofs.pricing.costs_of.Goals as goal

pub returns-then-lacks_width-2-clause-cost : goal.returns-then-lacks_width-2-clause-cost
returns-then-lacks_width-2-clause-cost c =
    c.eval.ensures ∙ ap (value c.args.cost.now) c.vars_but_widths-vars.ensures
    ∙ value_same c.args.cost.now (vars_of c.args.query.now c.args.op.now (vectors c.args.inputs.now) c.args.made.now)
    (sym c.lacks_width.ensures ∙ c.if-lacks_width.true)

pub returns-then-lacks_width-2-clause-rescan : goal.returns-then-lacks_width-2-clause-rescan
returns-then-lacks_width-2-clause-rescan c =
    c.eval-then-lacks_width-2.ensures ∙ ap (value c.args.rescan.now) c.vars_but_widths-vars.ensures
    ∙ value_same c.args.rescan.now (vars_of c.args.query.now c.args.op.now (vectors c.args.inputs.now) c.args.made.now)
    (sym c.lacks_width-then-lacks_width.ensures ∙ c.if-lacks_width-2.true)
