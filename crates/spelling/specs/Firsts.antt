-- Which item of a list is the first that has something, where each is judged with those before it.
use Rattle.std.specs.Prelude.{ℕ, List, [], ◌∷◌, ◌++◌}
use Prim.Native.Nat.{zero, suc}

-- behind these items, the first of the list that has it is the one with this number, from 1
abbrev pub FirstFrom : {A : Type 0} → (List A → A → Type 0) → List A → List A → ℕ → Type 0
FirstFrom Has before items zero = ⊥
FirstFrom Has before [] (suc n) = ⊥
FirstFrom Has before (x ∷ xs) (suc zero) = Has before x
FirstFrom Has before (x ∷ xs) (suc (suc n)) = (Has before x → ⊥) × FirstFrom Has (before ++ x ∷ []) xs (suc n)

-- behind these items, none of the list has it
abbrev pub NoneFrom : {A : Type 0} → (List A → A → Type 0) → List A → List A → Type 0
NoneFrom Has before [] = Unit {0}
NoneFrom Has before (x ∷ xs) = (Has before x → ⊥) × NoneFrom Has (before ++ x ∷ []) xs

-- the number, from 1, of the first item that has it
abbrev pub FirstAt : {A : Type 0} → (List A → A → Type 0) → List A → ℕ → Type 0
FirstAt Has items n = FirstFrom Has [] items n

abbrev pub NoneHas : {A : Type 0} → (List A → A → Type 0) → List A → Type 0
NoneHas Has items = NoneFrom Has [] items
