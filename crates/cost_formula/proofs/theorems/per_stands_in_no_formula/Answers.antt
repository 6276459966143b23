use Rattle.cost_formula.proofs.Laws.{no_per_in_cost, no_per_in_select}
use Rattle.cost_formula.proofs.theorems.per_stands_in_no_formula.Goals as goal

pub returns : goal.returns
returns c = record { costs = no_per_in_cost; selectivities = no_per_in_select }
