-- How far down nodes stand, by the places that are left to fill.
use Rattle.std.specs.Prelude.{ℕ, ◌+◌, List, [], ◌∷◌, ◌++◌, replicate}
use Rattle.derivation_reading.specs.Derivations.{Step}
use Rattle.derivation_reading.specs.Places.{inputs}

-- how many ancestors each of these nodes has, in preorder, where a node has so many in each place, of which the next comes first
unfoldable pub ancestors_of : List ℕ → List Step → List ℕ
ancestors_of places [] = []
ancestors_of [] (node ∷ later) = []
ancestors_of (n ∷ places) (node ∷ later) = n ∷ ancestors_of (replicate (inputs node) (n + 1) ++ places) later
