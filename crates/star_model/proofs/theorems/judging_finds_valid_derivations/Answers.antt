use Rattle.star_model.proofs.Laws.{judges_valid, judges_vector, judges_plan}
use Rattle.star_model.proofs.theorems.judging_finds_valid_derivations.Goals as goal

pub returns : goal.returns
returns c = record { valid = judges_valid; vector = judges_vector; plan = judges_plan }
