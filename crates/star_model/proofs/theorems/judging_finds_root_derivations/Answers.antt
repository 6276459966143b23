use Rattle.star_model.proofs.Laws.{judges_root}
use Rattle.star_model.proofs.theorems.judging_finds_root_derivations.Goals as goal

pub returns : goal.returns
returns c = judges_root
