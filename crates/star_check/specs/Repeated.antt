-- Names that stand twice in a list.
use Rattle.std.specs.Prelude.{ℕ, Bool, false, ◌||◌, List, [], ◌∷◌}
use Rattle.std.specs.List.{list_any}
use Rattle.star_model.specs.Vectors.{same_numbers}
use Rattle.star_model.specs.declared.rules.Param.{Param}
use Rattle.star_model.specs.declared.rules.ForAll.{ForAll}

-- some item has the name of a later one
abbrev pub recurs : {A : Type 0} → (A → List ℕ) → List A → Bool
recurs name [] = false
recurs name (x ∷ later) = list_any (λ y. same_numbers (name x) (name y)) later || recurs name later

-- a for-all name is that of a parameter or of a later for-all clause
abbrev pub ranges_repeat : List Param → List ForAll → Bool
ranges_repeat params ranges = list_any (λ f. list_any (λ p. same_numbers f.name p.name) params) ranges || recurs (λ f. f.name) ranges
