-- How the parts of a rule file are printed.
use Rattle.std.specs.Prelude.{List, ◌∷◌}
use Rattle.std.specs.List.{flat_map}
use Rattle.star_model.specs.declared.rules.ValueExpr.{ValueExpr}
use Rattle.spelling.specs.Lexemes.{Lexeme, comma}
use Rattle.rule_grammar.specs.Values.{value_lexemes}
use Rattle.rule_grammar.specs.Rules.{Definition, OfSelect, OfFormula, OfStar, definition_lexemes}
use Rattle.rule_printing.specs.declared.print.Statement.{Statement}
use Rattle.rule_printing.specs.declared.print.Statement.TheVariants as statement

-- arguments that stand behind others
unfoldable pub further_lexemes : List ValueExpr → List Lexeme
further_lexemes arguments = flat_map (λ v. comma ∷ value_lexemes v) arguments

-- what the statement defines
abbrev pub definition_of : Statement → Definition
definition_of (statement.Select d) = OfSelect d.now
definition_of (statement.Formula d) = OfFormula d.now
definition_of (statement.Star s) = OfStar s.now

abbrev pub statement_lexemes : Statement → List Lexeme
statement_lexemes s = definition_lexemes (definition_of s)
