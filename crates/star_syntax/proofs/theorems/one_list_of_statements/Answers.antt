use Rattle.star_syntax.proofs.Laws.{same_statements}
use Rattle.star_syntax.proofs.theorems.one_list_of_statements.Goals as goal

pub returns : goal.returns
returns c = same_statements
