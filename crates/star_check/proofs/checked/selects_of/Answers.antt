use Rattle.std.proofs.Common.{ap, ◌∙◌}
use Rattle.star_model.specs.Selectivity.{select_of}
use Rattle.star_check.proofs.Owned.{no_select_yet}
use Rattle.star_check.proofs.checked.selects_of.Goals as goal

pub put-requires : goal.put-requires
put-requires c =
    ap (λ selects. select_of selects c.definition-item.result.class) c.loop-definition.invariant
    ∙ no_select_yet c.args.definitions.now c.loop-definition.definition-index c.definition-item.result c.requires c.loop-definition-test.true c.definition-item.is
