-- How a plan of the rule language is read from the front of its lexemes.
use Rattle.std.specs.Prelude.{ℕ, zero, suc, ◌==◌, List, [], length, Option, Some, None, codes, if◌then◌else◌}
use Rattle.star_model.specs.PlanExprCases.{Unary, Binary}
use Rattle.star_model.specs.Vectors.{same_numbers}
use Rattle.star_model.specs.declared.rules.PlanExpr.{PlanExpr}
use Rattle.star_model.specs.declared.rules.PlanExpr.TheVariants as plain
use Rattle.star_model.specs.declared.rules.ValueExpr.{ValueExpr}
use Rattle.star_model.specs.declared.rules.Flavour.{Flavour}
use Rattle.star_model.specs.Kinds.{inputs_of}
use Rattle.star_model.specs.WellFormedRules.{Scope, arguments_of}
use Rattle.spelling.specs.Reading.{Reader, ◌>>=◌, ◌>>◌, pure, given, the_symbol, a_word}
use Rattle.spelling.specs.SeriesReading.{series}
use Rattle.star_model.specs.FlavourWords.{flavour_in}
use Rattle.rule_grammar.specs.RuleWords.{name_of}
use Rattle.rule_grammar.specs.ValueReading.{value_at}

-- the arguments, where they are as many as the operator takes
abbrev pub counted : Flavour → List ValueExpr → Option (List ValueExpr)
counted f arguments = if length arguments == arguments_of f then Some arguments else None

-- `value` reads an argument
module _ (value : Reader ValueExpr) where
  unfoldable pub arguments_at : Reader (List ValueExpr)
  arguments_at = series value (the_symbol (codes ","))

  -- the arguments of an operator, and the bracket behind them
  unfoldable pub own_arguments_at : Flavour → Reader (List ValueExpr)
  own_arguments_at f = do
    arguments ← arguments_at
    the_symbol (codes ")")
    given (counted f arguments)

  -- behind its plans, which may be all that it takes
  unfoldable pub more_arguments_at : Flavour → Reader (List ValueExpr)
  more_arguments_at f lexemes =
      if arguments_of f == 0 then (the_symbol (codes ")") >> pure []) lexemes else (the_symbol (codes ",") >> own_arguments_at f) lexemes

  -- behind the name of a STAR
  unfoldable pub reference_at : List ℕ → Reader PlanExpr
  reference_at star = do
    the_symbol (codes "(")
    arguments ← arguments_at
    the_symbol (codes ")")
    pure (plain.Reference star arguments)

  -- behind `Glue`
  unfoldable pub glue_at : Reader PlanExpr
  glue_at = do
    the_symbol (codes "(")
    stream ← value
    the_symbol (codes ",")
    preds ← value
    the_symbol (codes ")")
    pure (plain.Glue stream preds)

  -- behind an operator over no plan
  unfoldable pub leaf_at : Flavour → Reader PlanExpr
  leaf_at f = do
    the_symbol (codes "(")
    arguments ← own_arguments_at f
    pure (plain.Leaf f arguments)

  -- `inner` reads a plan inside this one
  module _ (inner : Reader PlanExpr) where
    unfoldable pub unary_at : Flavour → Reader PlanExpr
    unary_at f = do
      the_symbol (codes "(")
      input ← inner
      arguments ← more_arguments_at f
      pure (Unary f arguments input)

    unfoldable pub inputs_at : Reader (PlanExpr × PlanExpr)
    inputs_at = do
      left ← inner
      the_symbol (codes ",")
      right ← inner
      pure (left, right)

    -- behind the two plans
    unfoldable pub joined_at : Flavour → PlanExpr × PlanExpr → Reader PlanExpr
    joined_at f inputs = do
      arguments ← more_arguments_at f
      pure (Binary f arguments inputs.0 inputs.1)

    unfoldable pub binary_at : Flavour → Reader PlanExpr
    binary_at f = do
      the_symbol (codes "(")
      inputs ← inputs_at
      joined_at f inputs

    -- behind an operator over so many plans
    abbrev pub operator_at : Flavour → ℕ → Reader PlanExpr
    operator_at f zero = leaf_at f
    operator_at f (suc zero) = unary_at f
    operator_at f (suc (suc n)) = binary_at f

    -- behind this word, which may be the name of an operator, in a rule file of this version
    abbrev pub behind_word : ℕ → List ℕ → Option Flavour → Reader PlanExpr
    behind_word version word (Some f) = operator_at f (inputs_of f)
    behind_word version word None = λ lexemes. if same_numbers word (codes "Glue") then glue_at lexemes else (given (name_of version word) >>= reference_at) lexemes

    unfoldable pub plan_by : ℕ → Reader PlanExpr
    plan_by version = a_word >>= λ word. behind_word version word (flavour_in version word)

-- The number bounds how many plans and values may be open inside one another; the names may be used.
unfoldable pub plan_at : Scope → ℕ → Reader PlanExpr
plan_at scope zero = λ _. None
plan_at scope (suc n) = plan_by (value_at scope n) (plan_at scope n) scope.version
