use Rattle.cost_formula.proofs.Laws.{one_formula}
use Rattle.cost_formula.proofs.theorems.one_formula.Goals as goal

pub returns : goal.returns
returns c = one_formula
