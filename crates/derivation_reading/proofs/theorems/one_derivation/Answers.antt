use Rattle.derivation_reading.proofs.Laws.{one_accepted}
use Rattle.derivation_reading.proofs.theorems.one_derivation.Goals as goal

pub returns : goal.returns
returns c = one_accepted
