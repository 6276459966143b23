use Rattle.rule_grammar.proofs.Laws.{select_head_reads}
use Rattle.rule_grammar.proofs.theorems.selectivity_heads_are_read.Goals as goal

pub returns : goal.returns
returns c = select_head_reads
