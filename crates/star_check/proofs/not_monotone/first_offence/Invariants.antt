use Rattle.std.proofs.Common.{take}
use Rattle.star_check.specs.Findings.{IsFirstFound}
use Rattle.star_check.specs.Offences.{ShowsOffence}
use Rattle.star_check.proofs.not_monotone.first_offence.Given as goal

abbrev pub invariant-loop-definition : goal.invariant-loop-definition
invariant-loop-definition l = IsFirstFound ShowsOffence (take l.definition-index l.formulas) l.first
