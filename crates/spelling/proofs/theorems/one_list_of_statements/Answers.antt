use Rattle.spelling.proofs.Laws.{one_list}
use Rattle.spelling.proofs.theorems.one_list_of_statements.Goals as goal

pub returns : goal.returns
returns c = one_list
