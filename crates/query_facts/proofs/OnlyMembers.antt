-- The member of a set that has no other.
use Rattle.std.proofs.Common.{◌≡◌, ℕ, List, [], ◌∷◌, length, refl, arith}
use Rattle.std.specs.Prelude.{None, slice_get}
use Rattle.star_model.specs.Sets.{members, size}
use Rattle.star_model.specs.Meaning.{one_of, only_member}

one_first : (ns : List ℕ) → length ns ≡ 1 → one_of ns ≡ slice_get ns 0
one_first [] h = refl
one_first (n ∷ []) h = refl
one_first (n ∷ m ∷ ns) h = let never : ⊥ = omega (arith, h) in absurd never

not_one : (ns : List ℕ) → (length ns ≡ 1 → ⊥) → one_of ns ≡ None
not_one [] h = refl
not_one (n ∷ []) h = absurd (h refl)
not_one (n ∷ m ∷ ns) h = refl

pub only_first : (s : ℕ) → size s ≡ 1 → only_member s ≡ slice_get (members s) 0
only_first s h = one_first (members s) h

pub only_none : (s : ℕ) → (size s ≡ 1 → ⊥) → only_member s ≡ None
only_none s h = not_one (members s) h

pub ruleset only_rules = (only_first, only_none)
