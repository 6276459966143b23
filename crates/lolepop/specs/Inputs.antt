-- The vectors of an operator's inputs.
use Rattle.std.specs.Prelude.{List, [], ◌∷◌, Option}
use Rattle.std.specs.Option.{option_map_or}
use Rattle.star_model.specs.Operators.{nothing}
use Rattle.star_model.specs.declared.plans.Props.{Props}
use Rattle.lolepop.specs.declared.inputs.Inputs.{Inputs}
use Rattle.lolepop.specs.declared.inputs.Inputs.TheVariants as inputs

abbrev pub vectors : Inputs → List Props
vectors inputs.None = []
vectors (inputs.One v) = v.now ∷ []
vectors (inputs.Two v w) = v.now ∷ w.now ∷ []

-- the vector, or that of nothing
abbrev pub vector_in : Option Props → Props
vector_in input = option_map_or (λ v. v) input nothing
