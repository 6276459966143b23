use Rattle.star_model.proofs.Laws.{stepped}
use Rattle.star_model.proofs.theorems.vectors_go_by_the_table.Goals as goal

pub returns : goal.returns
returns c = stepped
