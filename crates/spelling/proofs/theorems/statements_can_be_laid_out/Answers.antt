use Rattle.spelling.proofs.Formed.{formed_statements}
use Rattle.spelling.proofs.theorems.statements_can_be_laid_out.Goals as goal

pub returns : goal.returns
returns c = formed_statements
