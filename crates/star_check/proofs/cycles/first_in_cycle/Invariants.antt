use Rattle.std.proofs.Common.{take}
use Rattle.star_check.specs.Findings.{IsFirstFound}
use Rattle.star_check.specs.CycleFaults.{ShowsCycle}
use Rattle.star_check.proofs.cycles.first_in_cycle.Given as goal

abbrev pub invariant-loop-position : goal.invariant-loop-position
invariant-loop-position l = IsFirstFound (ShowsCycle l.rules) (take l.position l.star-items) l.first
