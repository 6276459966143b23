use Rattle.std.proofs.Common.{length}
use Rattle.star_check.proofs.twice.+ranges_recur.Given as goal

abbrev pub decreases-ranges_recur : goal.decreases-ranges_recur
decreases-ranges_recur l = length l.ranges.now
