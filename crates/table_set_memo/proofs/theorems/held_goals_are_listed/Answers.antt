use Rattle.table_set_memo.proofs.Laws.{plans_at-listed}
use Rattle.table_set_memo.proofs.theorems.held_goals_are_listed.Goals as goal

pub returns : goal.returns
returns c = plans_at-listed
