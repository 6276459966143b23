use Rattle.star_model.proofs.Laws.{quotient_enough, quotient_least}
use Rattle.star_model.proofs.theorems.quotients_round_up.Goals as goal

pub returns : goal.returns
returns c = record { enough = quotient_enough; least = quotient_least }
