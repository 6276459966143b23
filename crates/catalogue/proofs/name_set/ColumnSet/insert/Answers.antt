use Rattle.std.proofs.Common.{sym}
use Rattle.catalogue.proofs.NameLists.{added_pair}
use Rattle.catalogue.proofs.name_set.ColumnSet.insert.Goals as goal

pub returns : goal.returns
returns c = rw (sym c.self.view_is) (added_pair (c.args.table, c.args.column) c.self.inside.columns.keys c.insert.new.self.keys c.in_ok-insert.ensures.keys)
