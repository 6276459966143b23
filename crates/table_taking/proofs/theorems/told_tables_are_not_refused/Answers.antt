use Rattle.table_taking.proofs.Laws.{told_not_refused}
use Rattle.table_taking.proofs.theorems.told_tables_are_not_refused.Goals as goal

pub returns : goal.returns
returns c = told_not_refused
