use Rattle.rule_grammar.proofs.Laws.{star_is_read}
use Rattle.rule_grammar.proofs.theorems.stars_are_read.Goals as goal

pub returns : goal.returns
returns c = star_is_read
