use Rattle.spelling.proofs.Laws.{statements_of_tokens}
use Rattle.spelling.proofs.theorems.statements_come_from_tokens.Goals as goal

pub returns : goal.returns
returns c = statements_of_tokens
