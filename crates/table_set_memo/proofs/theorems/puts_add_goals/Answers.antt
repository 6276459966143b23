use Rattle.table_set_memo.proofs.Laws.{plans_at-push_old, plans_at-push_new, plans_at-push_cases}
use Rattle.table_set_memo.proofs.theorems.puts_add_goals.Goals as goal

pub returns-clause-old : goal.returns-clause-old
returns-clause-old c = plans_at-push_old

pub returns-clause-new : goal.returns-clause-new
returns-clause-new c = plans_at-push_new

pub returns-clause-cases : goal.returns-clause-cases
returns-clause-cases c = plans_at-push_cases
