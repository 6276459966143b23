use Rattle.std.proofs.Common.{map}
use Rattle.sb_text.specs.Statements.{parts_of_iter}
use Rattle.derivation_reading.specs.Nodes.{said}
use Rattle.derivation_reading.proofs.SoFar.{SoFar}
use Rattle.derivation_reading.proofs.preorder.read_nodes.Given as goal

abbrev pub invariant-loop-statement : goal.invariant-loop-statement
invariant-loop-statement l = SoFar l.source (map said l.nodes) (parts_of_iter l.statement-iterator) l.places.left l.places.awaited l.number
