use Rattle.derivation_reading.proofs.Laws.{verdict}
use Rattle.derivation_reading.proofs.theorems.some_verdict.Goals as goal

pub returns : goal.returns
returns c = verdict
