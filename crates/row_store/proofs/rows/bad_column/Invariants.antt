use Rattle.std.proofs.Common.{◌≡◌, drop}
use Rattle.sb_outside.specs.Records.{record_at}
use Rattle.row_store.specs.Reading.{bad_column}
use Rattle.row_store.proofs.rows.bad_column.Given as goal

abbrev pub invariant-loop-index : goal.invariant-loop-index
invariant-loop-index l = bad_column (record_at l.raw l.record_no) l.index (drop l.index l.columns) ≡ bad_column (record_at l.raw l.record_no) 0 l.columns
