use Rattle.cost_formula.proofs.Laws.{formula_reads}
use Rattle.cost_formula.proofs.theorems.formulas_are_read.Goals as goal

pub returns : goal.returns
returns c = formula_reads
