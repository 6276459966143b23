use Rattle.std.proofs.Common.{◌∙◌, ap}
use Rattle.star_model.proofs.ColumnLaws.{inserted}
use Rattle.star_model.specs.Columns.{with_column}
use Rattle.star_model.proofs.columns.ColSet.insert.Goals as goal

pub returns : goal.returns
returns c = inserted c.self.inside.masks c.args.col c.self.told c.requires.quant c.requires.column ∙ ap (λ s. with_column s c.args.col) c.self.view_is
