use Rattle.rule_grammar.proofs.Laws.{formula_head_reads}
use Rattle.rule_grammar.proofs.theorems.formula_heads_are_read.Goals as goal

pub returns : goal.returns
returns c = formula_head_reads
