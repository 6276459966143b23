use Rattle.workload_runs.proofs.Accepting.{query_read}
use Rattle.workload_runs.proofs.reading.query_of.Goals as goal
use Rattle.workload_runs.proofs.reading.query_of.Goals.{in-Memory, in_default}

pub prove-unreachable-requires : goal.prove-unreachable-requires
prove-unreachable-requires c =
    let is = query_read c.args.catalogue.now c.args.text.now c.requires.text c.in-Err.fault (rw c.in-Err.is at c.read_query.ensures) in
    elim c.match-matches.branch [ in-Memory w ↦ cc | in_default w ↦ w.in_default.not-Memory is ]
