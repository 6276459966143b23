use Rattle.std.proofs.Common.{take}
use Rattle.star_check.specs.Findings.{IsFirstFound}
use Rattle.star_check.specs.Sizes.{ShowsTall}
use Rattle.star_check.proofs.heights.first_too_tall.Given as goal

abbrev pub invariant-loop-position : goal.invariant-loop-position
invariant-loop-position l = IsFirstFound (ShowsTall l.rules) (take l.position l.star-items) l.first
