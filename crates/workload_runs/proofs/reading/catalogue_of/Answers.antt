use Rattle.workload_runs.proofs.Accepting.{catalogue_read}
use Rattle.workload_runs.proofs.reading.catalogue_of.Goals as goal
use Rattle.workload_runs.proofs.reading.catalogue_of.Goals.{in-Memory, in_default}

pub prove-unreachable-requires : goal.prove-unreachable-requires
prove-unreachable-requires c =
    let is = catalogue_read c.args.text.now c.requires c.in-Err.fault (rw c.in-Err.is at c.read_catalogue.ensures) in
    elim c.match-matches.branch [ in-Memory w ↦ cc | in_default w ↦ w.in_default.not-Memory is ]
