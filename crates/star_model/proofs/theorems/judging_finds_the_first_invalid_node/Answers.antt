use Rattle.star_model.proofs.Laws.{judges_first}
use Rattle.star_model.proofs.theorems.judging_finds_the_first_invalid_node.Goals as goal

pub returns : goal.returns
returns c = judges_first
