-- Names that are looked up in lists of names.
use Rattle.std.specs.Prelude.{ℕ, List, [], ◌∷◌, Option, Some, None, option_map, option_and_then, if◌then◌else◌}
use Rattle.star_model.specs.Vectors.{same_numbers}

-- what stands beside these bytes in a table; the first argument where they aren't in it
abbrev pub found_in : {A : Type 0} → A → List (List ℕ × A) → List ℕ → A
found_in other [] bytes = other
found_in other (row ∷ rows) bytes = if same_numbers row.0 bytes then row.1 else found_in other rows bytes

-- all of the results, where each is there
abbrev pub all_of : {A : Type 0} → List (Option A) → Option (List A)
all_of [] = Some []
all_of (None ∷ later) = None
all_of (Some x ∷ later) = option_map (λ xs. x ∷ xs) (all_of later)

infixl 10 ◌>>=◌
abbrev pub ◌>>=◌ : {A B : Type 0} → Option A → (A → Option B) → Option B
found >>= next = option_and_then next found
