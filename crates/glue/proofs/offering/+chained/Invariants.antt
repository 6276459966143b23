use Rattle.std.proofs.Common.{length}
use Rattle.glue.proofs.offering.+chained.Given as goal

abbrev pub decreases-chained : goal.decreases-chained
decreases-chained l = length l.words.now
