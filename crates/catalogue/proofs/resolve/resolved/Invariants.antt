use Rattle.std.proofs.Common.{map}
use Rattle.catalogue.specs.Words.{said}
use Rattle.catalogue.proofs.SoFar.{SoFar}
use Rattle.catalogue.proofs.resolve.resolved.Given as goal

abbrev pub invariant-loop-statement : goal.invariant-loop-statement
invariant-loop-statement l = SoFar (map said l.statements) l.statement-index l.catalogue
