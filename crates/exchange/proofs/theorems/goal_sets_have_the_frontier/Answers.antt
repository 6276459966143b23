use Rattle.exchange.proofs.Laws.{has_frontier, vectors_once}
use Rattle.exchange.proofs.theorems.goal_sets_have_the_frontier.Goals as goal

pub returns : goal.returns
returns c = record { frontier = has_frontier; once = vectors_once }
