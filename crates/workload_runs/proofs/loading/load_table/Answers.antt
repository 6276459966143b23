use Rattle.workload_runs.proofs.LoadedTables.{only_memory}
use Rattle.workload_runs.proofs.loading.load_table.Goals as goal
use Rattle.workload_runs.proofs.loading.load_table.Goals.{in-Memory, in_default}

pub prove-unreachable-requires : goal.prove-unreachable-requires
prove-unreachable-requires c =
    let is = only_memory c.args.catalogue.now c.args.number c.args.records c.requires.number c.requires.rows c.in-Err.fault (rw c.in-Err.is at c.load.ensures) in
    elim c.match-matches.branch [ in-Memory w ↦ cc | in_default w ↦ w.in_default.not-Memory is ]
