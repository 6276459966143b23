use Rattle.stars_core.proofs.FaultLaws.{checked_reads}
use Rattle.stars_core.proofs.judging.judge_rules.Goals as goal

pub returns : goal.returns
returns c =
    let read = checked_reads c.args.bytes.now c.in_ok-rules.rules c.in_ok-rules-2.rules c.in_ok-rules.ensures c.in_ok-rules-2.ensures in
    record { size = c.in_ok-check_size.ensures; read = read.0; accepted = read.1 }
