use Rattle.std.proofs.Common.{◌-◌, ◌∙◌, arith, length, drop}
use Rattle.std.proofs.lemmas.List.{length-drop}
use Rattle.sb_outside.specs.Records.{record_at}
use Rattle.row_store.proofs.RowFaults.{too_many}
use Rattle.row_store.proofs.rows.rows_fault.Goals as goal

pub returns-then-row-gt-MAX_ROWS : goal.returns-then-row-gt-MAX_ROWS
returns-then-row-gt-MAX_ROWS c =
    too_many c.args.columns.now (length (record_at c.args.raw.now 0)) (c.loop-row.row - 1) (drop c.loop-row.row c.args.raw.now)
    (omega (arith, length-drop c.loop-row.row c.args.raw.now)) (omega arith)
    ∙ c.loop-row.invariant.rest
