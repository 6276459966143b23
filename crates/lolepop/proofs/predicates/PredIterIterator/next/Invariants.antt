use Rattle.std.proofs.Common.{◌≡◌, ◌+◌, ◌≤◌, length}
use Rattle.star_model.specs.Predicates.{those_in}
use Rattle.lolepop.proofs.predicates.PredIterIterator.next.Given as goal

abbrev pub invariant-loop-pred : goal.invariant-loop-pred
invariant-loop-pred l = record {
  room : l.self-inside.number + length l.self-inside.preds.now ≤ 32;
  left : those_in l.self-inside.set l.self-inside.number l.self-inside.preds.now ≡ those_in l.initial.self-inside.set l.initial.self-inside.number l.initial.self-inside.preds.now;
}

abbrev pub decreases-loop-pred : goal.decreases-loop-pred
decreases-loop-pred l = length l.self-inside.preds.now
