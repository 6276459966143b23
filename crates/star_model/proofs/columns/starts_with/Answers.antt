use Rattle.std.proofs.Common.{◌∙◌}
use Rattle.star_model.proofs.ListLaws.{same_prefix}
use Rattle.star_model.proofs.columns.starts_with.Goals as goal

pub returns : goal.returns
returns c = c.starts_with.ensures.value ∙ same_prefix c.args.prefix.now c.args.cols.now
