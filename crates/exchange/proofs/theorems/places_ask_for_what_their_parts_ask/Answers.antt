use Rattle.exchange.proofs.Laws.{asks_parts, asks_goal}
use Rattle.exchange.proofs.theorems.places_ask_for_what_their_parts_ask.Goals as goal

pub returns : goal.returns
returns c = record { parts = asks_parts; goal = asks_goal }
