use Rattle.std.proofs.Common.{take}
use Rattle.star_check.specs.Findings.{IsFirstFound}
use Rattle.star_check.specs.Sizes.{ShowsWide}
use Rattle.star_check.proofs.weights.first_too_wide.Given as goal

abbrev pub invariant-loop-position : goal.invariant-loop-position
invariant-loop-position l = IsFirstFound (ShowsWide l.rules) (take l.position l.star-items) l.first
