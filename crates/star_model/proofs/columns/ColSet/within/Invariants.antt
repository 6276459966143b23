use Rattle.std.proofs.Common.{◌≡◌, ℕ, ◌<◌, true, get_or}
use Rattle.star_model.specs.Sets.{is_within}
use Rattle.star_model.proofs.columns.ColSet.within.Given as goal

abbrev pub invariant-loop-n : goal.invariant-loop-n
invariant-loop-n l = (k : ℕ) → k < l.n → is_within (get_or l.fn.self k 0) (get_or l.fn.other k 0) ≡ true
