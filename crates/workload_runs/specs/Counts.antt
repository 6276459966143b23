-- How many things there are of a kind.
use Rattle.std.specs.Prelude.{◌≡◌, ℕ, List, [], ◌∷◌, length, Contains, ◌↔◌}

-- no item stands in the list a second time
abbrev pub EachOnce : {A : Type 0} → List A → Type 0
EachOnce [] = Unit {0}
EachOnce (x ∷ xs) = (Contains xs x → ⊥) × EachOnce xs

-- the list has each thing of which P holds, once, and nothing else
pub record ListsEach {A : Type 0} (P : A → Type 0) (list : List A) : Type 0 where
  pub members : (x : A) → Contains list x ↔ P x
  pub once : EachOnce list

-- P holds of so many things
abbrev pub IsCountOf : {A : Type 0} → (A → Type 0) → ℕ → Type 0
IsCountOf {A} P count = (list : List A) × ListsEach P list × (count ≡ length list)
