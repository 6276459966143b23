-- Names that are looked for in lists of names.
use Rattle.std.proofs.Common.{◌≡◌, ℕ, Bool, cond, ltb, List, [], ◌∷◌, map, length, Option, Some, None, refl, ap, ◌∙◌}
use Rattle.std.specs.Prelude.{◌||◌}
use Rattle.std.specs.List.{position_or_len, list_any}
use Rattle.std.proofs.lemmas.Iterator.Adapters.{position_from-zero}
use Rattle.star_model.specs.Vectors.{same_numbers}
use Rattle.star_model.specs.Names.{place_of}

-- what `position` answers where it looks for a name
pub found-place : (name : List ℕ) (names : List (List ℕ)) (r : Option ℕ)
    → r ≡ cond (ltb (position_or_len (same_numbers name) names) (length names)) (Some (position_or_len (same_numbers name) names)) None
    → r ≡ place_of name names
found-place name names r is = is ∙ position_from-zero (same_numbers name) names

pub any-map : {A B : Type 0} (test : B → Bool) (f : A → B) (xs : List A) → list_any (λ x. test (f x)) xs ≡ list_any test (map f xs)
any-map test f [] = refl
any-map test f (x ∷ xs) = ap (λ b. test (f x) || b) (any-map test f xs)
