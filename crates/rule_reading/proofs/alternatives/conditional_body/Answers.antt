use Rattle.rule_reading.proofs.Joined.{conditional}
use Rattle.rule_reading.proofs.alternatives.conditional_body.Goals as goal

pub returns : goal.returns
returns c = rw c.paired.ensures (conditional _ _ _ _ _ _ _ c.in_ok-condition.ensures c.body-body.ensures)
