use Rattle.std.proofs.Common.{length}
use Rattle.star_check.proofs.body_kinds.+have_parameter_kinds.Given as goal

-- how many kinds are asked
abbrev pub decreases-have_parameter_kinds : goal.decreases-have_parameter_kinds
decreases-have_parameter_kinds l = length l.params.now
