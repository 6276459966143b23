use Rattle.std.proofs.Common.{◌∙◌}
use Rattle.star_model.proofs.ListLaws.{any_turned}
use Rattle.star_model.proofs.columns.contains.Goals as goal

pub returns : goal.returns
returns c = c.contains.ensures.value ∙ any_turned c.args.col c.args.cols.now
