use Rattle.rule_grammar.proofs.Laws.{canonical_rules}
use Rattle.rule_grammar.proofs.theorems.canonical_rule_files_spell.Goals as goal

pub returns : goal.returns
returns c = canonical_rules
