-- The members of a set, and the numbers that are kept of a range, are below its end.
use Rattle.std.proofs.Common.{ℕ, zero, suc, ◌+◌, ◌≤◌, ◌<◌, ◌∷◌, filter, cond, Bool, true, false, arith}
use Rattle.std.specs.List.{range_with_len}
use Rattle.star_model.specs.Every.{Every}
use Rattle.star_model.specs.Sets.{places, has, members}

pub kept_below : (test : ℕ → Bool) (bound k n : ℕ) → k + n ≤ bound → Every (λ m. m < bound) (filter test (range_with_len k n))
kept_below test bound k zero low = tt
kept_below test bound k (suc n) low = at (test k) (kept_below test bound (k + 1) n (omega arith)) where
  at : (b : Bool) → Every (λ m. m < bound) (filter test (range_with_len (k + 1) n)) → Every (λ m. m < bound) (cond b (k ∷ filter test (range_with_len (k + 1) n)) (filter test (range_with_len (k + 1) n)))
  at true later = (omega arith, later)
  at false later = later

pub members_below : (s : ℕ) → Every (λ m. m < 32) (members s)
unfolding members places
members_below s = kept_below (has s) 32 0 32 (omega arith)
