use Rattle.std.proofs.Common.{map, take}
use Rattle.spelling.specs.Firsts.{NoneHas}
use Rattle.catalogue.specs.Words.{said}
use Rattle.catalogue.specs.Defined.{DefinesTwice}
use Rattle.catalogue.specs.Known.{Defines}
use Rattle.catalogue.proofs.names.first_twice.Given as goal

abbrev pub invariant-loop-place : goal.invariant-loop-place
invariant-loop-place l = Defines l.defined (take l.place (map said l.statements)) × NoneHas DefinesTwice (take l.place (map said l.statements))
