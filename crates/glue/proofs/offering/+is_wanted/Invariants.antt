use Rattle.std.proofs.Common.{length}
use Rattle.glue.proofs.offering.+is_wanted.Given as goal

abbrev pub decreases-is_wanted : goal.decreases-is_wanted
decreases-is_wanted l = length l.words.now
