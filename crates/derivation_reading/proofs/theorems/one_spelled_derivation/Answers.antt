use Rattle.derivation_reading.proofs.Laws.{one_derivation}
use Rattle.derivation_reading.proofs.theorems.one_spelled_derivation.Goals as goal

pub returns : goal.returns
returns c = one_derivation
