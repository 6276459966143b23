use Rattle.std.proofs.Common.{map, length}
use Rattle.derivation_reading.specs.Nodes.{said}
use Rattle.derivation_reading.proofs.Piles.{Piled}
use Rattle.derivation_reading.proofs.build.derivation_of.Given as goal

abbrev pub invariant-down : goal.invariant-down
invariant-down l = Piled (map said l.initial.left) (map said l.left) l.pile

abbrev pub decreases-down : goal.decreases-down
decreases-down l = length l.left
