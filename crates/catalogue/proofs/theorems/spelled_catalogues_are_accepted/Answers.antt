use Rattle.catalogue.proofs.Laws.{accepted_spells}
use Rattle.catalogue.proofs.theorems.spelled_catalogues_are_accepted.Goals as goal

pub returns : goal.returns
returns c = accepted_spells
