use Rattle.derivation_reading.proofs.Laws.{accepted_spells}
use Rattle.derivation_reading.proofs.theorems.spelled_derivations_are_accepted.Goals as goal

pub returns : goal.returns
returns c = accepted_spells
