-- How the parts of a formula are written.
use Rattle.std.specs.Prelude.{ℕ, List, map, codes}
use Rattle.star_model.specs.declared.formula.Formula.{Formula}
use Rattle.star_model.specs.declared.formula.Test.{Test}
use Rattle.star_model.specs.declared.formula.Test.TheVariants as test
use Rattle.spelling.specs.Lexemes.{Lexeme}
use Rattle.cost_formula.specs.FormulaGrammar as rule
use Rattle.cost_formula.specs.FormulaCanonical.{rank_of, stands, in_brackets, words_of}
use Rattle.cost_formula.specs.Formulas.{formula_lexeme}
use Rattle.cost_formula.specs.declared.print.Rank.{Rank}
use Rattle.cost_formula.specs.declared.print.Rank.TheVariants as rank

-- the rule of the grammar
abbrev pub rule_of : Rank → rule.Rank
rule_of rank.Factor = rule.Factor
rule_of rank.Term = rule.Term
rule_of rank.Sum = rule.Sum
rule_of rank.Whole = rule.Whole

abbrev pub test_sign : Test → List ℕ
test_sign test.Lt = codes "<"
test_sign test.Le = codes "<="
test_sign test.Eq = codes "="

-- the lexemes of a formula where one of this rank is wanted
unfoldable pub operand_lexemes : rule.Rank → Formula → List Lexeme
operand_lexemes wanted formula = map formula_lexeme (in_brackets (stands (rank_of formula) wanted) (words_of formula))
