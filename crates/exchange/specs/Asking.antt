-- For which goals a place asks: for that of each Glue to which it leads.
use Rattle.std.specs.Prelude.{◌≡◌, ℕ, true, ◌⊎◌, List, Option, Some}
use Rattle.star_model.specs.Meaning.{meaning, as_stream, as_preds}
use Rattle.star_model.specs.Expected.{Expected, ForQuery, ForGoal, Call, Expression, may_split, root_call, body_of, values_of, goal_of}
use Rattle.star_model.specs.AskedGoals.{Leads}
use Rattle.star_model.specs.PlanExprCases as expr
use Rattle.star_model.specs.declared.rules.PlanExpr.TheVariants as plain
use Rattle.star_model.specs.declared.query.Query.{Query}
use Rattle.star_model.specs.declared.rules.PlanExpr.{PlanExpr}
use Rattle.star_model.specs.declared.rules.ValueExpr.{ValueExpr}
use Rattle.star_model.specs.declared.rules.RuleFile.{RuleFile}
use Rattle.star_model.specs.declared.values.RuleValue.{RuleValue}

module _ (q : Query) (rules : RuleFile) where
  -- the goal of a Glue with this stream and these predicates
  abbrev pub IsGlueFor : ValueExpr → ValueExpr → List RuleValue → ℕ → ℕ → Type 0
  IsGlueFor stream preds b t k = goal_of q (as_stream (meaning q b stream)).tables (as_preds (meaning q b preds)) ≡ ForGoal t k

  -- the place leads to a Glue for the goal with tables t and pushed predicates k
  pub record AsksFrom (x : Expected) (t k : ℕ) : Type 0 where
    pub stream : ValueExpr
    pub preds : ValueExpr
    pub bindings : List RuleValue
    pub leads : Leads q rules x (Expression (plain.Glue stream preds) bindings)
    pub goal : IsGlueFor stream preds bindings t k

  -- the expression is a Glue for the goal, or one of its parts asks for it
  abbrev pub AsksIn : PlanExpr → List RuleValue → ℕ → ℕ → Type 0
  AsksIn (plain.Reference star args) b t k = AsksFrom (Call star (values_of q b args)) t k
  AsksIn (plain.Glue stream preds) b t k = IsGlueFor stream preds b t k
  AsksIn (plain.Leaf f args) b t k = ⊥
  AsksIn (expr.Unary f args e) b t k = AsksFrom (Expression e b) t k
  AsksIn (expr.Binary f args d e) b t k = AsksFrom (Expression d b) t k ⊎ AsksFrom (Expression e b) t k

  -- a part of the place asks for the goal, or the place is a Glue for it
  abbrev pub AsksBelow : Expected → ℕ → ℕ → Type 0
  AsksBelow ForQuery t k = ⊥
  AsksBelow (ForGoal s j) t k = (split : Option (ℕ × ℕ)) × (may_split s split ≡ true) × AsksFrom (root_call s j split) t k
  AsksBelow (Call star b) t k = (n : ℕ) × (picks : List ℕ) × (y : Expected) × (body_of q rules star b n picks ≡ Some y) × AsksFrom y t k
  AsksBelow (Expression e b) t k = AsksIn e b t k
