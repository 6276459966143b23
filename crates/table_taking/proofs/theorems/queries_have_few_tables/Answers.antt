use Rattle.table_taking.proofs.Laws.{few_tables}
use Rattle.table_taking.proofs.theorems.queries_have_few_tables.Goals as goal

pub returns : goal.returns
returns c = few_tables
