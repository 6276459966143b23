use Rattle.rule_grammar.proofs.Laws.{canonical_formula_def, canonical_select_def}
use Rattle.rule_grammar.proofs.theorems.fewest_brackets_spell.Goals as goal

pub returns : goal.returns
returns c = record { formula = canonical_formula_def; selectivity = canonical_select_def }
