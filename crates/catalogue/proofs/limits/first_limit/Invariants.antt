use Rattle.std.proofs.Common.{map, take}
use Rattle.spelling.specs.Firsts.{NoneHas}
use Rattle.catalogue.specs.Words.{said}
use Rattle.catalogue.specs.Beyond.{IsBeyond}
use Rattle.catalogue.specs.LimitTests.{Counted}
use Rattle.catalogue.proofs.limits.first_limit.Given as goal

abbrev pub invariant-loop-place : goal.invariant-loop-place
invariant-loop-place l = Counted l.before (take l.place (map said l.statements)) × NoneHas IsBeyond (take l.place (map said l.statements))
