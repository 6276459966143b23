use Rattle.star_model.proofs.Laws.{select_of-push}
use Rattle.star_model.proofs.theorems.entries_add_selectivities.Goals as goal

pub returns : goal.returns
returns c = select_of-push
