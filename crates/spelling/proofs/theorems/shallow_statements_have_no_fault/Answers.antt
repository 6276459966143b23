use Rattle.spelling.proofs.Laws.{no_deep_fault}
use Rattle.spelling.proofs.theorems.shallow_statements_have_no_fault.Goals as goal

pub returns : goal.returns
returns c = no_deep_fault
