use Rattle.star_syntax.proofs.Laws.{no_fault, rules_formed, rules_fit}
use Rattle.star_syntax.proofs.theorems.statements_without_fault_are_read.Goals as goal

pub returns-clause-clear : goal.returns-clause-clear
returns-clause-clear c = no_fault

pub returns-clause-formed : goal.returns-clause-formed
returns-clause-formed c = rules_formed

pub returns-clause-fits : goal.returns-clause-fits
returns-clause-fits c = rules_fit
