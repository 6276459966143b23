use Rattle.rule_grammar.proofs.Laws.{value_is_read, value_is_spelled}
use Rattle.rule_grammar.proofs.theorems.values_are_read.Goals as goal

pub returns : goal.returns
returns c = record { read = value_is_read; spelled = value_is_spelled }
