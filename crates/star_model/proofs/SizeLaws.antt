-- How many members the parts of a set have.
use Rattle.std.proofs.Common.{◌≡◌, ◌≢◌, ℕ, ◌<◌, ◌^◌, ◌⊎◌, inl, inr, Bool, true, false, not, ◌&&◌, ◌||◌, if◌then◌else◌, List, [], ◌∷◌, length, filter, refl, sym, ◌∙◌, arith}
use Rattle.std.specs.List.{list_all}
use Rattle.std.proofs.lemmas.Bool.{false≢true}
use Rattle.std.proofs.lemmas.Nat.{or_comm, and_comm}
use Rattle.star_model.specs.Sets.{has, size, members, places, union, meet, is_within, IsSplit}
use Rattle.star_model.proofs.BoolLaws.{both}
use Rattle.star_model.proofs.SetLaws.{same_set, within-members}
use Rattle.star_model.proofs.SplitLaws.{comes_of}

-- where all that pass the first test pass the second, fewer pass the first, or the same ones
fewer_pass : (p r : ℕ → Bool) (xs : List ℕ) → list_all (λ n. not (p n) || r n) xs ≡ true
    → (length (filter p xs) < length (filter r xs)) ⊎ ((length (filter p xs) ≡ length (filter r xs)) × (list_all (λ n. not (r n) || p n) xs ≡ true))
fewer_pass p r [] h = inr (refl, refl)
fewer_pass p r (x ∷ xs) h =
    let parts = both (not (p x) || r x) (list_all (λ n. not (p n) || r n) xs) h in step (p x) (r x) parts.0 (fewer_pass p r xs parts.1)
  where
    step : (a b : Bool) → (not a || b) ≡ true
        → (length (filter p xs) < length (filter r xs)) ⊎ ((length (filter p xs) ≡ length (filter r xs)) × (list_all (λ n. not (r n) || p n) xs ≡ true))
        → (length (if a then x ∷ filter p xs else filter p xs) < length (if b then x ∷ filter r xs else filter r xs))
        ⊎ ((length (if a then x ∷ filter p xs else filter p xs) ≡ length (if b then x ∷ filter r xs else filter r xs))
        × (((not b || a) && list_all (λ n. not (r n) || p n) xs) ≡ true))
    step true true i (inl less) = inl (omega (arith, less))
    step true true i (inr same) = inr (let e = same.0 in omega (arith, e), same.1)
    step false true i (inl less) = inl (omega (arith, less))
    step false true i (inr same) = inl (let e = same.0 in omega (arith, e))
    step false false i (inl less) = inl less
    step false false i (inr same) = inr same
    step true false i rest = absurd (false≢true i)

pub part_is_smaller : (s t : ℕ) → s < 2 ^ 32 → t < 2 ^ 32 → is_within t s ≡ true → t ≢ s → size t < size s
unfolding is_within members
part_is_smaller s t fits_s fits_t part other =
    elim (fewer_pass (has t) (has s) places part) [
      | inl less ↦ less
      | inr same ↦ absurd (other (same_set t s fits_t fits_s (λ n l. agree (has t n) (has s n) ((within-members t s).0 part n l) ((within-members s t).0 same.1 n l))))
    ]
  where
    agree : (a b : Bool) → (a ≡ true → b ≡ true) → (b ≡ true → a ≡ true) → a ≡ b
    agree true b f g = sym (f refl)
    agree false true f g = g refl
    agree false false f g = refl

pub left_is_smaller : (s a b : ℕ) → s < 2 ^ 32 → IsSplit s a b → (a < s) × (is_within a s ≡ true) × (size a < size s)
left_is_smaller s a b fits split =
    let comes = comes_of s fits a b split in
    let less : a < s = comes.1 in
    (less, comes.2, part_is_smaller s a fits (omega (arith, less, fits)) comes.2 (λ e. let no : ⊥ = omega (arith, less, e) in no))

turned : (s a b : ℕ) → IsSplit s a b → IsSplit s b a
unfolding union meet
turned s a b split = record { whole = or_comm b a ∙ split.whole; apart = and_comm b a ∙ split.apart; left = split.right; right = split.left }

pub right_is_smaller : (s a b : ℕ) → s < 2 ^ 32 → IsSplit s a b → (b < s) × (is_within b s ≡ true) × (size b < size s)
right_is_smaller s a b fits split = left_is_smaller s b a fits (turned s a b split)
