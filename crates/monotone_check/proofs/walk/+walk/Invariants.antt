use Rattle.std.proofs.Common.{length}
use Rattle.star_model.specs.Monotone.{nodes}
use Rattle.monotone_check.proofs.walk.+walk.Given as goal

-- how many nodes there are
abbrev pub decreases-walk : goal.decreases-walk
decreases-walk l = length (nodes l.formula.now)
