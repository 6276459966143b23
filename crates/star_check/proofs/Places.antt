-- Where an item is found, by its position and by itself.
use Prim.Native.Nat.{zero, suc}
use Rattle.std.proofs.Common.{◌≡◌, ℕ, ◌<◌, ◌≤◌, inl, inr, Bool, true, false, if◌then◌else◌, nat_lt, List, [], ◌∷◌, length, map, refl, ap, sym, ◌∙◌, arith}
use Rattle.std.specs.Prelude.{Some, None, slice_get, slice_index, position}
use Rattle.std.specs.List.{find, position_or_len}
use Rattle.std.specs.Option.{option_map, option_map_or}
use Rattle.std.proofs.lemmas.Bool.{false≢true, ltb-true, ltb-false}
use Rattle.std.proofs.lemmas.List.Folds.{find_at}
use Rattle.std.proofs.lemmas.Option.{slice_get_cases, slice_get-map, get_or_from_slice_get, same_Some, none-some}

pub find_passes : {A : Type 0} (p : A → Bool) (xs : List A) (x : A) → find p xs ≡ Some x → p x ≡ true
find_passes {A = A} p [] x h = absurd (none-some x h)
find_passes {A = A} p (y ∷ ys) x h = step (p y) refl h (find_passes p ys x)
  where
    step : (b : Bool) → p y ≡ b → (if b then Some y else find p ys) ≡ Some x → (find p ys ≡ Some x → p x ≡ true) → p x ≡ true
    step true is e later = ap p (sym (same_Some y x e)) ∙ is
    step false is e later = later e

pub find_none : {A : Type 0} (p : A → Bool) (xs : List A) (i : ℕ) (x : A) → find p xs ≡ None → slice_get xs i ≡ Some x → p x ≡ true → ⊥
find_none {A = A} p [] i x h at passes = none-some x at
find_none {A = A} p (y ∷ ys) zero x h at passes = step (p y) (ap p (same_Some y x at) ∙ passes) h
  where
    step : (b : Bool) → b ≡ true → (if b then Some y else find p ys) ≡ None → ⊥
    step true is e = none-some y (sym e)
    step false is e = false≢true is
find_none {A = A} p (y ∷ ys) (suc i) x h at passes = step (p y) h (λ e. find_none p ys i x e at passes)
  where
    step : (b : Bool) → (if b then Some y else find p ys) ≡ None → (find p ys ≡ None → ⊥) → ⊥
    step true e later = none-some y (sym e)
    step false e later = later e

-- an item that passes stands at the place that is found, or none passes
pub data Place {A : Type 0} (p : A → Bool) (xs : List A) : Type 0 where
  stands : (i : ℕ) (x : A) → position p xs ≡ Some i → slice_get xs i ≡ Some x → find p xs ≡ Some x → Place p xs
  nowhere : position p xs ≡ None → find p xs ≡ None → Place p xs

pub place : {A : Type 0} (p : A → Bool) (xs : List A) → Place p xs
place {A = A} p xs = step (nat_lt (position_or_len p xs) (length xs)) refl
  where
    step : (b : Bool) → nat_lt (position_or_len p xs) (length xs) ≡ b → Place p xs
    step true is =
        elim (slice_get_cases xs (position_or_len p xs)).1 [
          | inl s ↦
              Place.stands (position_or_len p xs) s.0 (ap (λ b. if b then Some (position_or_len p xs) else None) is) s.2 (find_at p xs ∙ s.2)
          | inr past ↦ let low : position_or_len p xs < length xs = ltb-true (position_or_len p xs) (length xs) is in let no : ⊥ = omega (arith, low, past.0) in absurd no
        ]
    step false is =
        elim (slice_get_cases xs (position_or_len p xs)).1 [
          | inl s ↦ let high : length xs ≤ position_or_len p xs = ltb-false (position_or_len p xs) (length xs) is in let no : ⊥ = omega (arith, high, s.1) in absurd no
          | inr past ↦ Place.nowhere (ap (λ b. if b then Some (position_or_len p xs) else None) is) (find_at p xs ∙ past.1)
        ]

-- what stands at the place in a list of what is said of each item
pub looked_up : {A : Type 0} (p : A → Bool) (f : A → ℕ) (xs : List A) → option_map_or (λ i. slice_index (map f xs) i) (position p xs) 0 ≡ option_map_or f (find p xs) 0
looked_up {A = A} p f xs = from (place p xs)
  where
    from : Place p xs → option_map_or (λ i. slice_index (map f xs) i) (position p xs) 0 ≡ option_map_or f (find p xs) 0
    from (Place.stands i x is at found) =
        ap (λ o. option_map_or (λ i. slice_index (map f xs) i) o 0) is
        ∙ get_or_from_slice_get (map f xs) i (f x) 0 (slice_get-map f xs i ∙ ap (option_map f) at)
        ∙ sym (ap (λ o. option_map_or f o 0) found)
    from (Place.nowhere is found) = ap (λ o. option_map_or (λ i. slice_index (map f xs) i) o 0) is ∙ sym (ap (λ o. option_map_or f o 0) found)
