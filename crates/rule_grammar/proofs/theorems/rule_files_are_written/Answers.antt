use Rattle.rule_grammar.proofs.Laws.{written_rules_spell}
use Rattle.rule_grammar.proofs.theorems.rule_files_are_written.Goals as goal

pub returns : goal.returns
returns c = written_rules_spell
