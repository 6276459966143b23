use Rattle.stars_core.proofs.Says.{one_reading}
use Rattle.stars_core.proofs.theorems.one_reading.Goals as goal

pub returns : goal.returns
returns c = one_reading
