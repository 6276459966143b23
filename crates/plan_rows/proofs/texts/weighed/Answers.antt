use Rattle.std.proofs.Common.{sym, subst}
use Rattle.star_model.specs.WellFormed.{WellFormedQuery}
use Rattle.star_model.proofs.Laws.{weighed_formed}
use Rattle.plan_rows.proofs.texts.weighed.Goals as goal

pub returns : goal.returns
returns c = subst WellFormedQuery (sym c.weigh.ensures) (weighed_formed c.args.selects.now c.args.query c.requires)
