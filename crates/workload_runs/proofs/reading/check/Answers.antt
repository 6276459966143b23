use Rattle.workload_runs.proofs.Accepting.{formed_as, check_memory}
use Rattle.workload_runs.proofs.reading.check.Goals as goal
use Rattle.workload_runs.proofs.reading.check.Goals.{in-Memory, in_default}

pub check_rules-requires : goal.check_rules-requires
check_rules-requires c = formed_as c.args.rules c.requires

pub prove-unreachable-requires : goal.prove-unreachable-requires
prove-unreachable-requires c =
    let is = check_memory c.args.rules c.requires c.in-Err.fault (rw c.in-Err.is at c.check_rules.ensures) in
    elim c.match-matches.branch [ in-Memory w ↦ cc | in_default w ↦ w.in_default.not-Memory is ]
