use Rattle.std.proofs.Common.{◌≡◌, map, take}
use Rattle.star_model.specs.Answers.{values_of_columns}
use Rattle.row_steps.specs.LoadedTables.{data_of}
use Rattle.row_printing.specs.RowLines.{row_lines}
use Rattle.row_printing.proofs.printing.print_rows.Given as goal

abbrev pub invariant-loop-row : goal.invariant-loop-row
invariant-loop-row l = l.text.items ≡ row_lines (map (values_of_columns l.query (data_of l.tables) l.query.select) (take l.row-index l.rows))
