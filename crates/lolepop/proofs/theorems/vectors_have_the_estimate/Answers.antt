use Rattle.lolepop.proofs.Laws.{vector_card, tree_card}
use Rattle.lolepop.proofs.theorems.vectors_have_the_estimate.Goals as goal

pub returns : goal.returns
returns c = record { plans = vector_card; trees = tree_card }
