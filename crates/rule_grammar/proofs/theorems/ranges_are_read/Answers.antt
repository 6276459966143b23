use Rattle.rule_grammar.proofs.Laws.{range_is_read, range_is_spelled}
use Rattle.rule_grammar.proofs.theorems.ranges_are_read.Goals as goal

pub returns : goal.returns
returns c = record { read = range_is_read; spelled = range_is_spelled }
