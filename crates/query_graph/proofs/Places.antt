-- Places of names in lists of what has names.
use Rattle.std.proofs.Common.{◌≡◌, ℕ, ◌+◌, Bool, cond, ltb, true, false, List, [], ◌∷◌, map, length, Option, Some, None, refl, sym, ◌∙◌}
use Rattle.std.specs.List.{position_from, position_or_len}
use Rattle.std.proofs.lemmas.Iterator.Adapters.{position_from-zero}
use Rattle.star_model.specs.Vectors.{same_numbers}
use Rattle.star_model.specs.Names.{place_of}

position_from-map : {A B : Type 0} (test : B → Bool) (f : A → B) (n : ℕ) (xs : List A) → position_from test n (map f xs) ≡ position_from (λ x. test (f x)) n xs
position_from-map test f n [] = refl
position_from-map test f n (x ∷ xs) = elim (test (f x)) as (λ b. cond b (Some n) (position_from test (n + 1) (map f xs)) ≡ cond b (Some n) (position_from (λ y. test (f y)) (n + 1) xs)) [ true ↦ refl | false ↦ position_from-map test f (n + 1) xs ]

-- what `position` answers where it looks for a name
pub found-place : {A : Type 0} (f : A → List ℕ) (name : List ℕ) (xs : List A) (r : Option ℕ)
    → r ≡ cond (ltb (position_or_len (λ x. same_numbers name (f x)) xs) (length xs)) (Some (position_or_len (λ x. same_numbers name (f x)) xs)) None
    → r ≡ place_of name (map f xs)
found-place f name xs r is = is ∙ position_from-zero (λ x. same_numbers name (f x)) xs ∙ sym (position_from-map (same_numbers name) f 0 xs)
