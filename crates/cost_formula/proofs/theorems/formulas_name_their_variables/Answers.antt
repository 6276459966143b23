use Rattle.cost_formula.proofs.Laws.{cost_names, select_names}
use Rattle.cost_formula.proofs.theorems.formulas_name_their_variables.Goals as goal

pub returns : goal.returns
returns c = record { costs = cost_names; selectivities = select_names }
