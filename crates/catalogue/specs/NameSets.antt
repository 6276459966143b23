-- Sets of names, and of pairs of names, as lists in the order of insertion.
use Rattle.std.specs.Prelude.{ℕ, Bool, ◌&&◌, List, [], ◌∷◌, ◌++◌, if◌then◌else◌}
use Rattle.std.specs.List.{list_any}
use Rattle.star_model.specs.Vectors.{same_numbers}
use Rattle.star_model.specs.Names.{is_among}

-- the names with this one, last where it is new
abbrev pub with_name : List (List ℕ) → List ℕ → List (List ℕ)
with_name names name = if is_among names name then names else names ++ name ∷ []

abbrev pub NamePair : Type 0
NamePair = List ℕ × List ℕ

abbrev pub has_pair : List NamePair → List ℕ → List ℕ → Bool
has_pair pairs first second = list_any (λ pair. same_numbers first pair.0 && same_numbers second pair.1) pairs

-- the pairs with this one, last where it is new
abbrev pub with_pair : List NamePair → List ℕ → List ℕ → List NamePair
with_pair pairs first second = if has_pair pairs first second then pairs else pairs ++ (first, second) ∷ []
