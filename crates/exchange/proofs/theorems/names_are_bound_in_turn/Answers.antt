use Rattle.exchange.proofs.Laws.{alternative_ways, ranges_none, ranges_more, bound_step}
use Rattle.exchange.proofs.theorems.names_are_bound_in_turn.Goals as goal

pub returns : goal.returns
returns c = record { alternative = alternative_ways; none = ranges_none; more = ranges_more; step = bound_step }
