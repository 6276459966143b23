use Rattle.star_model.proofs.Laws.{vector_card}
use Rattle.star_model.proofs.theorems.plans_have_the_estimate.Goals as goal

pub returns : goal.returns
returns c = vector_card
