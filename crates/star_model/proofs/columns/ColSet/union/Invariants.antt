use Rattle.std.proofs.Common.{◌≡◌, ℕ, ◌<◌, length, get_or}
use Rattle.star_model.specs.Sets.{union}
use Rattle.star_model.proofs.columns.ColSet.union.Given as goal

abbrev pub invariant-loop-n : goal.invariant-loop-n
invariant-loop-n l = record {
  long : length l.masks ≡ 12;
  below : (k : ℕ) → k < l.n → get_or l.masks k 0 ≡ union (get_or l.fn.self k 0) (get_or l.fn.other k 0);
}
