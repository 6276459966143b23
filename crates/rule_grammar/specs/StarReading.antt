-- How a STAR is read from the lexemes of its statement.
use Rattle.std.specs.Prelude.{ℕ, zero, suc, ◌+◌, List, [], ◌∷◌, ◌++◌, length, map, Option, Some, None, codes}
use Rattle.star_model.specs.declared.rules.Condition.{Condition}
use Rattle.star_model.specs.declared.rules.PlanExpr.{PlanExpr}
use Rattle.star_model.specs.declared.rules.ForAll.{ForAll}
use Rattle.star_model.specs.declared.rules.Alternative.{Alternative}
use Rattle.star_model.specs.declared.rules.Param.{Param}
use Rattle.star_model.specs.declared.rules.StarDef.{StarDef}
use Rattle.spelling.specs.Lexemes.{Lexeme}
use Rattle.star_model.specs.WellFormedRules.{Scope}
use Rattle.spelling.specs.Reading.{Reader, ◌>>=◌, ◌>>◌, pure, either, only, the_word, the_symbol}
use Rattle.spelling.specs.SeriesReading.{series}
use Rattle.rule_grammar.specs.RuleWords.{free_word, kind_at}
use Rattle.rule_grammar.specs.ValueReading.{range_at}
use Rattle.rule_grammar.specs.ConditionReading.{condition_at}
use Rattle.rule_grammar.specs.PlanReading.{plan_at}

-- the names that may be used behind these ranges
abbrev pub with_ranges : Scope → List ForAll → Scope
with_ranges parameters ranges = record { version = parameters.version; names = parameters.names ++ map (λ f. f.name) ranges }

-- The number bounds how many plans, conditions and values may be open inside one another.

-- behind `for`
unfoldable pub for_all_at : Scope → ℕ → Reader ForAll
for_all_at scope depth = do
  name ← free_word scope.version
  the_word (codes "in")
  range ← range_at scope depth
  pure (record { name = name; range = range })

-- behind those that are done, at most so many
unfoldable pub ranges_behind : Scope → ℕ → ℕ → List ForAll → Reader (List ForAll)
ranges_behind parameters depth zero done lexemes = Some (done, lexemes)
ranges_behind parameters depth (suc n) done lexemes =
    either (the_word (codes "for")) (λ _. for_all_at (with_ranges parameters done) depth >>= λ f. ranges_behind parameters depth n (done ++ f ∷ [])) (pure done) lexemes

unfoldable pub ranges_at : Scope → ℕ → Reader (List ForAll)
ranges_at parameters depth lexemes = ranges_behind parameters depth (length lexemes) [] lexemes

unfoldable pub when_at : Scope → ℕ → Reader (Option Condition)
when_at scope depth = either (the_word (codes "when")) (λ _. condition_at scope depth >>= λ c. pure (Some c)) (pure None)

unfoldable pub body_at : Scope → ℕ → Reader PlanExpr
body_at scope depth = the_word (codes "give") >> plan_at scope depth

unfoldable pub conditional_body_at : Scope → ℕ → Reader (Option Condition × PlanExpr)
conditional_body_at scope depth = do
  condition ← when_at scope depth
  body ← body_at scope depth
  pure (condition, body)

unfoldable pub alternative_at : Scope → ℕ → Reader Alternative
alternative_at parameters depth = do
  ranges ← ranges_at parameters depth
  rest ← conditional_body_at (with_ranges parameters ranges) depth
  pure (record { ranges = ranges; condition = rest.0; body = rest.1 })

unfoldable pub alternatives_at : Scope → ℕ → Reader (List Alternative)
alternatives_at parameters depth = series (alternative_at parameters depth) (the_symbol (codes "|"))

unfoldable pub parameter_at : ℕ → Reader Param
parameter_at version = do
  name ← free_word version
  kind ← kind_at
  pure (record { name = name; kind = kind })

unfoldable pub parameters_at : ℕ → Reader (List Param)
parameters_at version = series (parameter_at version) (the_symbol (codes ","))

abbrev pub names_of : ℕ → List Param → Scope
names_of version parameters = record { version = version; names = map (λ p. p.name) parameters }

-- what stands before the alternatives: the name and the parameters
unfoldable pub head_at : ℕ → Reader (List ℕ × List Param)
head_at version = do
  the_word (codes "star")
  name ← free_word version
  the_symbol (codes "(")
  parameters ← parameters_at version
  the_symbol (codes ")")
  the_symbol (codes "=")
  pure (name, parameters)

-- the statement with this number, in a rule file of this version
unfoldable pub star_at : ℕ → ℕ → ℕ → Reader StarDef
star_at version number depth = do
  head ← head_at version
  alternatives ← alternatives_at (names_of version head.1) depth
  pure (record { statement = number; name = head.0; params = head.1; alternatives = alternatives })

-- all of the lexemes
unfoldable pub star_of : ℕ → ℕ → List Lexeme → Option StarDef
star_of version number lexemes = only (star_at version number (length lexemes + 1) lexemes)
