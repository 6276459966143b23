use Rattle.std.proofs.Common.{◌∙◌, sym}
use Rattle.catalogue.proofs.NameLists.{among_pairs}
use Rattle.catalogue.proofs.name_set.ColumnSet.contains.Goals as goal

pub returns : goal.returns
returns c = rw (sym c.self.view_is) (c.contains.ensures ∙ among_pairs c.args.table.now c.args.column.now c.self.inside.columns.keys)
