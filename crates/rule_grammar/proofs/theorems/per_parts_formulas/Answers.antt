use Rattle.rule_grammar.proofs.Laws.{parts_are_found, found_parts}
use Rattle.rule_grammar.proofs.theorems.per_parts_formulas.Goals as goal

pub returns : goal.returns
returns c = record { found = parts_are_found; parts = found_parts }
