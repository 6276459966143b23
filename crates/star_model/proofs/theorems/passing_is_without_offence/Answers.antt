use Rattle.star_model.proofs.Laws.{passes_where}
use Rattle.star_model.proofs.theorems.passing_is_without_offence.Goals as goal

pub returns : goal.returns
returns c = passes_where
