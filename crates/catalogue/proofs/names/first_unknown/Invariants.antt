use Rattle.std.proofs.Common.{map, take}
use Rattle.spelling.specs.Firsts.{NoneHas}
use Rattle.catalogue.specs.Words.{said}
use Rattle.catalogue.specs.Defined.{NamesUnknown}
use Rattle.catalogue.specs.Known.{Knows}
use Rattle.catalogue.proofs.names.first_unknown.Given as goal

abbrev pub invariant-loop-place : goal.invariant-loop-place
invariant-loop-place l = Knows l.known (take l.place (map said l.statements)) × NoneHas NamesUnknown (take l.place (map said l.statements))
