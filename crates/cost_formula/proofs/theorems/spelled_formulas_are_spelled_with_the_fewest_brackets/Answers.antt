use Rattle.cost_formula.proofs.Laws.{cost_spelled_again, select_spelled_again}
use Rattle.cost_formula.proofs.theorems.spelled_formulas_are_spelled_with_the_fewest_brackets.Goals as goal

pub returns : goal.returns
returns c = record { costs = cost_spelled_again; selectivities = select_spelled_again }
