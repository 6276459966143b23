use Rattle.std.proofs.Common.{length}
use Rattle.star_check.proofs.twice.+parameters_recur.Given as goal

abbrev pub decreases-parameters_recur : goal.decreases-parameters_recur
decreases-parameters_recur l = length l.params.now
