use Rattle.star_expand.proofs.Laws.{own_goal, own_held, own_set}
use Rattle.star_expand.proofs.theorems.query_goals_are_answered.Goals as goal

pub returns : goal.returns
returns c = record { goal = own_goal; held = own_held; best = own_set }
