use Rattle.std.proofs.Common.{◌≡◌, ◌≤◌, map, take, length}
use Rattle.star_model.specs.Canon.{after_merges, distinct}
use Rattle.property_vector.proofs.canonical.canon_of.Given as goal

abbrev pub invariant-loop-column : goal.invariant-loop-column
invariant-loop-column l = (l.list ≡ distinct (map (after_merges l.made) (take l.column-index l.columns))) × (length l.list ≤ l.column-index)
