use Rattle.std.proofs.Common.{◌++◌}
use Rattle.workload_gen.specs.Records.{rows_from}
use Rattle.workload_gen.proofs.RecordLaws.{RowsLeft}
use Rattle.workload_gen.proofs.records.add_rows.Given as goal

-- the rows that are left complete the table
abbrev pub invariant-loop-row : goal.invariant-loop-row
invariant-loop-row l = RowsLeft l.table l.prevs l.row (l.fn.table ++ rows_from 0 l.prevs)
