use Rattle.exchange.proofs.Laws.{split_listed, split_exchange, one_exchange, several_exchange}
use Rattle.exchange.proofs.theorems.goals_exchange.Goals as goal

pub returns : goal.returns
returns c = record { listed = split_listed; split = split_exchange; one = one_exchange; several = several_exchange }
