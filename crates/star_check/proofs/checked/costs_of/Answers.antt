use Rattle.std.proofs.Common.{ap, ◌∙◌}
use Rattle.star_model.specs.Costs.{formula_of}
use Rattle.star_check.proofs.Owned.{no_formula_yet}
use Rattle.star_check.proofs.checked.costs_of.Goals as goal

pub put-requires : goal.put-requires
put-requires c =
    ap (λ costs. formula_of costs c.definition-item.result.flavour c.definition-item.result.which) c.loop-definition.invariant
    ∙ no_formula_yet c.args.formulas.now c.loop-definition.definition-index c.definition-item.result c.requires c.loop-definition-test.true c.definition-item.is
