use Rattle.rule_grammar.proofs.Laws.{condition_is_read, condition_is_spelled}
use Rattle.rule_grammar.proofs.theorems.conditions_are_read.Goals as goal

pub returns : goal.returns
returns c = record { read = condition_is_read; spelled = condition_is_spelled }
