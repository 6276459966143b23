use Rattle.rule_grammar.proofs.Laws.{for_all_spelled, alternative_spelled, parameter_spelled}
use Rattle.rule_grammar.proofs.theorems.parts_of_stars_are_read.Goals as goal

pub returns : goal.returns
returns c = record { for_all = for_all_spelled; alternative = alternative_spelled; parameter = parameter_spelled }
