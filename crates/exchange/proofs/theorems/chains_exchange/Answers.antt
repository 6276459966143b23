use Rattle.exchange.proofs.Laws.{glue_exchange, accepted_pass}
use Rattle.exchange.proofs.theorems.chains_exchange.Goals as goal

pub returns : goal.returns
returns c = record { glue = glue_exchange; accepted = accepted_pass }
