use Rattle.star_model.proofs.Laws.{weighed_again, weighed_formed}
use Rattle.star_model.proofs.theorems.weighing_changes_selectivities.Goals as goal

pub returns : goal.returns
returns c = record { again = weighed_again; formed = weighed_formed }
