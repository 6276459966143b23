use Rattle.star_expand.proofs.Laws.{asked_from_query}
use Rattle.star_expand.proofs.theorems.asked_goals_are_asked_from.Goals as goal

pub returns : goal.returns
returns c = asked_from_query
