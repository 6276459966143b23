-- Written by tools/worked_texts.
use Rattle.std.proofs.Common.{refl}
use Rattle.rule_grammar.specs.Rules as rules
use Rattle.rule_grammar.proofs.Laws.{canonical_formula_def}
use Rattle.spelling.specs.Lexemes.{statements_in}
use Rattle.sb_text.specs.Tokens.{lexed}
use Rattle.sb_text.specs.Tokens.{lexed_after}
use Rattle.cost_formula.specs.FormulaCanonical.{words_of}
use Rattle.cost_formula.specs.FormulaCanonical.{rank_of}
use Rattle.cost_formula.specs.Formulas.{formula_lexeme}
use Rattle.rule_grammar.specs.Values.{value_lexemes}
use Rattle.star_model.specs.WellFormedRules.{IsValue}
use Rattle.rule_grammar.specs.Values.{condition_lexemes}
use Rattle.star_model.specs.WellFormedRules.{IsCondition}
use Rattle.rule_grammar.specs.Rules.{plan_lexemes}
use Rattle.star_model.specs.WellFormedRules.{IsPlan}
use Rattle.star_model.specs.Monotone.{nodes}
use Rattle.worked_texts.proofs.texts.rules_intersect.Goals as goal

pub returns : goal.returns
unfolding statements_in lexed lexed_after words_of rank_of formula_lexeme value_lexemes IsValue condition_lexemes IsCondition plan_lexemes IsPlan nodes
returns c = record { version = refl; statements = _; are = record { all_tokens = refl; are = refl }; define = rules.formula (canonical_formula_def _ _ refl refl) (rules.formula (canonical_formula_def _ _ refl refl) (rules.formula (canonical_formula_def _ _ refl refl) (rules.formula (canonical_formula_def _ _ refl refl) (rules.formula (canonical_formula_def _ _ refl refl) (rules.formula (canonical_formula_def _ _ refl refl) (rules.formula (canonical_formula_def _ _ refl refl) (rules.formula (canonical_formula_def _ _ refl refl) (rules.formula (canonical_formula_def _ _ refl refl) (rules.formula (canonical_formula_def _ _ refl refl) (rules.formula (canonical_formula_def _ _ refl refl) (rules.formula (canonical_formula_def _ _ refl refl) (rules.formula (canonical_formula_def _ _ refl refl) (rules.formula (canonical_formula_def _ _ refl refl) (rules.formula (canonical_formula_def _ _ refl refl) (rules.formula (canonical_formula_def _ _ refl refl) (rules.formula (canonical_formula_def _ _ refl refl) (rules.formula (canonical_formula_def _ _ refl refl) (rules.formula (canonical_formula_def _ _ refl refl) (rules.formula (canonical_formula_def _ _ refl refl) (rules.formula (canonical_formula_def _ _ refl refl) (rules.formula (canonical_formula_def _ _ refl refl) (rules.star (record { number = refl; are = refl; stands = record { name = refl; some_parameters = tt; parameters = (refl, (refl, (refl, tt))); some_alternatives = tt; alternatives = (record { ranges = tt; condition = tt; body = (record { known = refl; inputs = refl; count = refl; values = (((refl, refl), (refl, refl)), tt) }, ((refl, refl), (refl, refl)), ((refl, refl), (refl, refl))) }, tt) } }) (rules.formula (canonical_formula_def _ _ refl refl) (rules.formula (canonical_formula_def _ _ refl refl) (rules.star (record { number = refl; are = refl; stands = record { name = refl; some_parameters = tt; parameters = (refl, (refl, tt)); some_alternatives = tt; alternatives = (record { ranges = tt; condition = tt; body = (refl, tt, ((refl, refl), (((refl, refl), (refl, refl)), tt))) }, tt) } }) (rules.star (record { number = refl; are = refl; stands = record { name = refl; some_parameters = tt; parameters = (refl, (refl, tt)); some_alternatives = tt; alternatives = (record { ranges = tt; condition = tt; body = record { known = refl; inputs = refl; count = refl; values = ((refl, refl), ((refl, refl), tt)) } }, (record { ranges = (refl, (refl, refl), tt); condition = tt; body = (record { known = refl; inputs = refl; count = refl; values = ((refl, refl), (((refl, refl), ((refl, refl), (refl, refl), (refl, refl))), tt)) }, record { known = refl; inputs = refl; count = refl; values = ((refl, refl), ((refl, refl), (((refl, refl), (refl, refl), (refl, refl)), tt))) }) }, (record { ranges = (refl, (refl, refl), (refl, (refl, refl), tt)); condition = ((refl, refl), (refl, refl)); body = (record { known = refl; inputs = refl; count = refl; values = ((refl, refl), (((refl, refl), (((refl, refl), (refl, refl), (refl, refl)), ((refl, refl), (refl, refl), (refl, refl)))), tt)) }, (record { known = refl; inputs = refl; count = refl; values = tt }, record { known = refl; inputs = refl; count = refl; values = ((refl, refl), ((refl, refl), (((refl, refl), (refl, refl), (refl, refl)), tt))) }, record { known = refl; inputs = refl; count = refl; values = ((refl, refl), ((refl, refl), (((refl, refl), (refl, refl), (refl, refl)), tt))) })) }, tt))) } }) (rules.none))))))))))))))))))))))))))) }
