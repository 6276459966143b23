use Rattle.std.proofs.Common.{take}
use Rattle.star_check.specs.Findings.{IsFirstFound}
use Rattle.star_check.specs.CycleFaults.{ShowsGlue}
use Rattle.star_check.proofs.cycles.first_glue_in_access.Given as goal

abbrev pub invariant-loop-position : goal.invariant-loop-position
invariant-loop-position l = IsFirstFound (ShowsGlue l.rules) (take l.position l.star-items) l.first
