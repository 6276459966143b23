use Rattle.rule_grammar.proofs.Laws.{tiny_is_spelled}
use Rattle.rule_grammar.proofs.theorems.the_smallest_rule_file_is_spelled.Goals as goal

pub returns : goal.returns
returns c = tiny_is_spelled
