-- Written by tools/worked_texts.
use Rattle.std.proofs.Common.{refl}
use Rattle.spelling.specs.Layout.{layout}
use Rattle.std.specs.Fmt.{digits}
use Rattle.cost_formula.specs.FormulaCanonical.{words_of}
use Rattle.cost_formula.specs.FormulaCanonical.{rank_of}
use Rattle.cost_formula.specs.Formulas.{formula_lexeme}
use Rattle.rule_grammar.specs.Values.{value_lexemes}
use Rattle.star_model.specs.WellFormedRules.{IsValue}
use Rattle.rule_grammar.specs.Values.{condition_lexemes}
use Rattle.star_model.specs.WellFormedRules.{IsCondition}
use Rattle.rule_grammar.specs.Rules.{plan_lexemes}
use Rattle.star_model.specs.WellFormedRules.{IsPlan}
use Rattle.star_model.specs.Monotone.{nodes}
use Rattle.rule_grammar.specs.Rules.{in_order}
use Rattle.worked_texts.proofs.texts.laid_out_rules.Goals as goal

pub returns : goal.returns
unfolding layout digits words_of rank_of formula_lexeme value_lexemes IsValue condition_lexemes IsCondition plan_lexemes IsPlan nodes in_order
returns c = refl
