use Rattle.std.proofs.Common.{◌≡◌, ◌≤◌, ◌-◌, drop, length}
use Rattle.sb_outside.specs.Records.{record_at}
use Rattle.row_store.specs.Reading.{rows_fault}
use Rattle.row_store.proofs.rows.rows_fault.Given as goal

abbrev pub invariant-loop-row : goal.invariant-loop-row
invariant-loop-row l = record {
  from_1 : 1 ≤ l.row;
  rest : rows_fault l.columns (length (record_at l.raw 0)) (l.row - 1) (drop l.row l.raw) ≡ rows_fault l.columns (length (record_at l.raw 0)) 0 (drop 1 l.raw);
}
