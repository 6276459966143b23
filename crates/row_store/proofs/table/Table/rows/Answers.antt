use Rattle.row_store.proofs.CellLaws.{have_types}
use Rattle.row_store.proofs.table.Table.rows.Goals as goal

pub returns-clause-types : goal.returns-clause-types
returns-clause-types c = have_types c.self.inside.columns.items c.self.inside.raw c.args.self.now c.self.view_is
