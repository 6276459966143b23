use Rattle.std.proofs.Common.{arith}
use Rattle.row_store.proofs.CellLaws.{width, past_rows, past_columns}
use Rattle.row_store.proofs.table.Table.cell_or_zero.Goals as goal
use Rattle.row_store.proofs.table.Table.cell_or_zero.Goals.{else-row-rows-via-then-row-rows+else-column-len, else-row-rows-via-else-row-rows}

pub cell-requires-clause-column_in_range : goal.cell-requires-clause-column_in_range
cell-requires-clause-column_in_range c = omega (arith, width c.self.inside.columns.items c.self.inside.raw c.args.self.now c.self.view_is c.args.row (omega arith))

pub returns-else-row-rows : goal.returns-else-row-rows
returns-else-row-rows c = elim c.else-row-rows.branch [
  | else-row-rows-via-then-row-rows+else-column-len w ↦
      past_columns c.args.self.now c.args.row c.args.column (omega (arith, width c.self.inside.columns.items c.self.inside.raw c.args.self.now c.self.view_is c.args.row (omega arith)))
  | else-row-rows-via-else-row-rows w ↦ past_rows c.args.self.now c.args.row c.args.column (omega arith)
]
