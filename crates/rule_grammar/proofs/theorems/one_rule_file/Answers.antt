use Rattle.rule_grammar.proofs.Laws.{one_rule_file, one_star, one_formula_def, one_select_def}
use Rattle.rule_grammar.proofs.theorems.one_rule_file.Goals as goal

pub returns : goal.returns
returns c = record { text = one_rule_file; star = one_star; formula = one_formula_def; selectivity = one_select_def }
