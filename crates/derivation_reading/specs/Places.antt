-- Which node may stand behind others, in preorder.
use Rattle.std.specs.Prelude.{◌≡◌, ℕ, ◌+◌, ◌-◌, true, List, [], ◌∷◌}
use Rattle.star_model.specs.Kinds.{inputs_of}
use Rattle.derivation_reading.specs.Derivations.{Step, Glue, Goal, Reference, Operator, is_glue, is_goal}

-- how many nodes stand right below it
abbrev pub inputs : Step → ℕ
inputs (Glue chain) = 1
inputs (Goal goal split) = 1
inputs (Reference star alternative values) = 1
inputs (Operator f) = inputs_of f

-- the places that are left to fill behind these nodes, of so many before them: each node fills one, and adds one for each of its inputs
abbrev pub places_behind : ℕ → List Step → ℕ
places_behind places [] = places
places_behind places (node ∷ later) = places_behind (places - 1 + inputs node) later

-- the first node is a Glue node, and a goal stands exactly behind a Glue node
abbrev pub MayStand : List Step → Step → Type 0
MayStand [] node = is_glue node ≡ true
MayStand (last ∷ []) node = is_goal node ≡ is_glue last
MayStand (first ∷ next ∷ later) node = MayStand (next ∷ later) node
