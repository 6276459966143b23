use Rattle.workload_runs.proofs.Accepting.{short_as, rules_memory, rules_are}
use Rattle.workload_runs.proofs.reading.read_rule_file.Goals as goal
use Rattle.workload_runs.proofs.reading.read_rule_file.Goals.{in-Memory, in_default}

pub read_rules-requires : goal.read_rules-requires
read_rules-requires c = short_as c.args.text.now c.requires

pub prove-unreachable-requires : goal.prove-unreachable-requires
prove-unreachable-requires c =
    let is = rules_memory c.args.text.now c.requires c.in-Err.fault (rw c.in-Err.is at c.read_rules.ensures) in
    elim c.match-matches.branch [ in-Memory w ↦ cc | in_default w ↦ w.in_default.not-Memory is ]

pub returns-in-Ok : goal.returns-in-Ok
returns-in-Ok c = rules_are c.args.text.now c.requires c.in-Ok.rules (rw c.in-Ok.is at c.read_rules.ensures)
