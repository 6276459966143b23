use Rattle.star_check.specs.Reaching.{AreDirectSoFar}
use Rattle.star_check.proofs.reach.direct_rows.Given as goal

abbrev pub invariant-loop-star : goal.invariant-loop-star
invariant-loop-star l = AreDirectSoFar l.stars l.star-index l.rows.items
