-- Trees that are put down one on the other while a derivation is made.
use Rattle.std.specs.Prelude.{◌≡◌, ◌+◌, List, [], ◌∷◌, ◌++◌, length}
use Rattle.star_model.specs.declared.derivations.Deriv.{Deriv}
use Rattle.star_model.specs.Every.{Every}
use Rattle.derivation_reading.specs.Derivations.{Step, steps, HasInputs}
use Rattle.derivation_reading.specs.Places.{inputs}

-- the nodes of the trees, of which the last that was put down comes first
unfoldable pub pile_steps : List Deriv → List Step
pile_steps [] = []
pile_steps (tree ∷ later) = pile_steps later ++ steps tree

-- the trees that were put down last became the inputs of the node's tree
pub record Grows (node : Step) (old : List Deriv) (tree : Deriv) (new : List Deriv) : Type 0 where
  pub grown : steps tree ++ pile_steps new ≡ node ∷ pile_steps old
  pub fewer : length new + inputs node ≡ length old
  pub inputs_are : Every HasInputs old → HasInputs tree × Every HasInputs new
