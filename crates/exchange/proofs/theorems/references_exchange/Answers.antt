use Rattle.exchange.proofs.Laws.{body_exchange, body_unmet, ranges_exchange, call_exchange, reference_exchange}
use Rattle.exchange.proofs.theorems.references_exchange.Goals as goal

pub returns : goal.returns
returns c = record { body = body_exchange; unmet = body_unmet; ranges = ranges_exchange; call = call_exchange; reference = reference_exchange }
