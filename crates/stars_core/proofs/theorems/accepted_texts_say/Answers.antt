use Rattle.stars_core.proofs.Verdicts.{accepted_texts_say}
use Rattle.stars_core.proofs.theorems.accepted_texts_say.Goals as goal

pub returns : goal.returns
returns c = accepted_texts_say
