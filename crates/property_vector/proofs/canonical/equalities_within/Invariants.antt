use Rattle.std.proofs.Common.{◌≡◌, ◌≤◌, take, length}
use Rattle.std.specs.List.{filter_map}
use Rattle.star_model.specs.Predicates.{those_in}
use Rattle.star_model.specs.Canon.{equality_within}
use Rattle.property_vector.proofs.canonical.equalities_within.Given as goal

abbrev pub invariant-loop-n : goal.invariant-loop-n
invariant-loop-n l = (l.found ≡ filter_map (equality_within l.tables) (those_in l.preds 0 (take l.n l.query.preds))) × (length l.found ≤ l.n)
