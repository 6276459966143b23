use Rattle.std.proofs.Common.{◌≡◌, ◌+◌, ◌++◌, ◌∷◌, [], map, drop, replicate, reverse}
use Rattle.derivation_reading.specs.Nodes.{said}
use Rattle.derivation_reading.specs.OpenPlaces.{ancestors_of}
use Rattle.derivation_reading.proofs.TooFar.{first_far, Searched}
use Rattle.derivation_reading.proofs.heights.first_too_far.Given as goal

abbrev pub invariant-loop-node : goal.invariant-loop-node
invariant-loop-node l = record {
  searched : Searched l.number l.places (map said (drop l.node-index l.nodes)) (first_far 1 (ancestors_of (0 ∷ []) (map said l.nodes)));
  number_is : l.number ≡ l.node-index + 1;
}

abbrev pub invariant-loop-input : goal.invariant-loop-input
invariant-loop-input l = reverse l.places ≡ replicate l.input (l.ancestors + 1) ++ reverse l.initial.places
