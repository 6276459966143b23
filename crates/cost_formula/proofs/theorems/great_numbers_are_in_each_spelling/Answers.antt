use Rattle.cost_formula.proofs.Laws.{great_numbers_stay}
use Rattle.cost_formula.proofs.theorems.great_numbers_are_in_each_spelling.Goals as goal

pub returns : goal.returns
returns c = great_numbers_stay
