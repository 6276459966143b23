use Rattle.std.proofs.Common.{◌≡◌, fold, take, length, []}
use Rattle.star_model.specs.Canon.{with_merge}
use Rattle.property_vector.proofs.canonical.merges.Given as goal

abbrev pub invariant-loop-i : goal.invariant-loop-i
invariant-loop-i l = (l.made ≡ fold with_merge [] (take l.i l.pairs)) × (length l.made ≡ l.i)
