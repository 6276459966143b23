-- The variables that each kind of formula may name.
use Rattle.std.specs.Prelude.{List}
use Rattle.star_model.specs.declared.formula.Var.{Var}
use Rattle.cost_formula.specs.Formulas.{cost_variables, select_variables}
use Rattle.cost_formula.specs.declared.words.Vocabulary.{Vocabulary}
use Rattle.cost_formula.specs.declared.words.Vocabulary.TheVariants as vocabulary

abbrev pub variables_of : Vocabulary → List Var
variables_of vocabulary.Cost = cost_variables
variables_of vocabulary.Selectivity = select_variables
