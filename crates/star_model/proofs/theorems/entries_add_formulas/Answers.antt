use Rattle.star_model.proofs.Laws.{formula_of-push}
use Rattle.star_model.proofs.theorems.entries_add_formulas.Goals as goal

pub returns : goal.returns
returns c = formula_of-push
