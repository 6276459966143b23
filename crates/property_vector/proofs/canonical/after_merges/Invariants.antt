use Rattle.std.proofs.Common.{◌≡◌, fold, take}
use Rattle.star_model.specs.Canon.{merged}
use Rattle.property_vector.proofs.canonical.after_merges.Given as goal

abbrev pub invariant-loop-pair : goal.invariant-loop-pair
invariant-loop-pair l = l.least ≡ fold (λ y pair. merged pair y) l.fn.column (take l.pair-index l.made)
