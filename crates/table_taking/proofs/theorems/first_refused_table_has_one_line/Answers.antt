use Rattle.table_taking.proofs.Laws.{one_line, no_rows}
use Rattle.table_taking.proofs.theorems.first_refused_table_has_one_line.Goals as goal

pub returns-clause-one_line : goal.returns-clause-one_line
returns-clause-one_line c = one_line

pub returns-clause-no_rows : goal.returns-clause-no_rows
returns-clause-no_rows c = no_rows
