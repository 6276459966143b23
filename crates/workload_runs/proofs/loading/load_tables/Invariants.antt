use Rattle.workload_runs.proofs.LoadedTables.{CameTo}
use Rattle.workload_runs.proofs.loading.load_tables.Given as goal

abbrev pub invariant-loop-number : goal.invariant-loop-number
invariant-loop-number l = CameTo l.catalogue l.fn.records l.records l.loaded l.number
