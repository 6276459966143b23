-- How far down the nodes of a derivation stand.
use Rattle.std.specs.Prelude.{ℕ, ◌+◌, ◌<◌, List, [], ◌∷◌, ◌++◌}
use Rattle.star_model.specs.declared.derivations.Deriv.{Deriv}
use Rattle.star_model.specs.declared.derivations.Deriv.TheVariants.{Leaf}
use Rattle.star_model.specs.DerivCases.{Glue, Goal, Reference, Unary, Binary}
use Rattle.spelling.specs.Firsts.{NoneHas}

-- how many ancestors each node has, in preorder, where the top has so many
unfoldable pub ancestors : ℕ → Deriv → List ℕ
ancestors n (Glue chain goal) = n ∷ ancestors (n + 1) goal
ancestors n (Goal goal split body) = n ∷ ancestors (n + 1) body
ancestors n (Reference star alternative values body) = n ∷ ancestors (n + 1) body
ancestors n (Leaf f) = n ∷ []
ancestors n (Unary f input) = n ∷ ancestors (n + 1) input
ancestors n (Binary f left right) = n ∷ (ancestors (n + 1) left ++ ancestors (n + 1) right)

-- a node with so many ancestors is too far down
abbrev pub IsTooFar : List ℕ → ℕ → Type 0
IsTooFar before n = 2047 < n

-- at most 2,048 levels
abbrev pub IsLow : Deriv → Type 0
IsLow tree = NoneHas IsTooFar (ancestors 0 tree)
