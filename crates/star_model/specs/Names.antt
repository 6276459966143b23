-- Names among names.
use Rattle.std.specs.Prelude.{ℕ, Bool, List, Option}
use Rattle.std.specs.List.{position_from, list_any}
use Rattle.star_model.specs.Vectors.{same_numbers}

-- the place of the first of these names that is this one
abbrev pub place_of : List ℕ → List (List ℕ) → Option ℕ
place_of name names = position_from (same_numbers name) 0 names

abbrev pub is_among : List (List ℕ) → List ℕ → Bool
is_among names name = list_any (same_numbers name) names
