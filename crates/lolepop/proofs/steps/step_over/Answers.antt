use Rattle.std.proofs.Common.{◌∙◌, sym}
use Rattle.lolepop.specs.Inputs.{vectors}
use Rattle.lolepop.proofs.StepLaws.{step_applicable}
use Rattle.lolepop.proofs.steps.step_over.Goals as goal

pub returns-then-each_touches : goal.returns-then-each_touches
returns-then-each_touches c =
    c.price.ensures
    ∙ step_applicable c.args.query.now c.args.costs.now c.args.op.now (vectors c.args.inputs.now) c.unpriced-made.result
    (sym c.may_apply.ensures ∙ c.if-may_apply.true) (sym c.each_touches.ensures ∙ c.if-each_touches.true) c.unpriced-made.ensures
