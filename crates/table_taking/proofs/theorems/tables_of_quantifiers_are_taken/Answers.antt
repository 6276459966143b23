use Rattle.table_taking.proofs.Laws.{tables_hold}
use Rattle.table_taking.proofs.theorems.tables_of_quantifiers_are_taken.Goals as goal

pub returns : goal.returns
returns c = tables_hold
