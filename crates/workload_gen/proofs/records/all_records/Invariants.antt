use Rattle.std.proofs.Common.{◌≡◌, map, take}
use Rattle.workload_gen.specs.Records.{records_of}
use Rattle.workload_gen.proofs.records.all_records.Given as goal

abbrev pub invariant-loop-table : goal.invariant-loop-table
invariant-loop-table l = l.all ≡ map records_of (take l.table-index l.tables)
