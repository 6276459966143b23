use Rattle.std.proofs.Common.{length}
use Rattle.star_check.proofs.kinds.+have_kinds.Given as goal

-- how many kinds are asked
abbrev pub decreases-have_kinds : goal.decreases-have_kinds
decreases-have_kinds l = length l.wanted.now
