-- Lists that are cut into pieces, and one more item at the end of the last.
use Rattle.std.specs.Prelude.{◌≡◌, ◌≤◌, ◌-◌, ℕ, List, [], ◌∷◌, ◌++◌, take, drop}

-- the pieces that end at these places, the first of them after a start
abbrev pub pieces : {A : Type 0} → ℕ → List ℕ → List A → List (List A)
pieces start [] items = []
pieces start (end' ∷ ends) items = take (end' - start) (drop start items) ∷ pieces end' ends items

-- the places rise from a start, and the last of them is the size
abbrev pub AreEnds : ℕ → List ℕ → ℕ → Type 0
AreEnds start [] size = start ≡ size
AreEnds start (end' ∷ ends) size = (start ≤ end') × AreEnds end' ends size

-- the last of some lists with one item more at its end
abbrev pub with_last_item : {A : Type 0} → List (List A) → A → List (List A)
with_last_item [] item = []
with_last_item (last ∷ []) item = (last ++ item ∷ []) ∷ []
with_last_item (first ∷ second ∷ rest) item = first ∷ with_last_item (second ∷ rest) item
