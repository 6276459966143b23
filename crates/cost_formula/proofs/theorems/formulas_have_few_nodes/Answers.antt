use Rattle.cost_formula.proofs.Laws.{few_nodes}
use Rattle.cost_formula.proofs.theorems.formulas_have_few_nodes.Goals as goal

pub returns : goal.returns
returns c = few_nodes
