-- What a place's parts ask for and isn't held, the place does.
use Rattle.std.proofs.Common.{◌≡◌, ℕ, ◌-◌, ◌⊎◌, inl, inr, List, Option, Some, None, sym, ◌∙◌, subst}
use Rattle.star_model.specs.Expected.{Expected, ForGoal, Call, Expression, goal_of, values_of}
use Rattle.star_model.specs.Meaning.{meaning, as_stream, as_preds}
use Rattle.star_model.specs.PlanExprCases as expr
use Rattle.star_model.specs.PlanExprCases.{made-Unary, made-Binary}
use Rattle.star_model.specs.declared.plans.Goal.{Goal}
use Rattle.star_model.specs.declared.query.Query.{Query}
use Rattle.star_model.specs.declared.rules.Flavour.{Flavour}
use Rattle.star_model.specs.declared.rules.PlanExpr.{PlanExpr}
use Rattle.star_model.specs.declared.rules.PlanExpr.TheVariants as made
use Rattle.star_model.specs.declared.rules.ValueExpr.{ValueExpr}
use Rattle.star_model.specs.declared.rules.RuleFile.{RuleFile}
use Rattle.star_model.specs.declared.values.RuleValue.{RuleValue}
use Rattle.table_set_memo.specs.Memos.{GoalSet, plans_at, IsHeld}
use Rattle.exchange.specs.Asking.{AsksFrom, AsksBelow}
use Rattle.exchange.proofs.Laws.{asks_parts}
use Rattle.search_places.specs.Memos.{FirstMissing}

-- ---- the same of two askings that agree, and of two one after the other

pub missing_same : (memo : List GoalSet) (P Q : ℕ → ℕ → Type 0) (r : Option Goal) → ((t k : ℕ) → P t k → Q t k) → ((t k : ℕ) → Q t k → P t k) → FirstMissing memo P r → FirstMissing memo Q r
missing_same memo P Q None to back m = λ h asked. m h (back h.tables h.pushed asked)
missing_same memo P Q (Some h) to back m = (to h.tables h.pushed m.0, m.1)

pub missing_wider : (memo : List GoalSet) (P Q : ℕ → ℕ → Type 0) (h : Goal) → ((t k : ℕ) → P t k → Q t k) → FirstMissing memo P (Some h) → FirstMissing memo Q (Some h)
missing_wider memo P Q h to m = (to h.tables h.pushed m.0, m.1)

then_missing : (memo : List GoalSet) (P Q : ℕ → ℕ → Type 0) (r : Option Goal) → FirstMissing memo P None → FirstMissing memo Q r → FirstMissing memo (λ t k. P t k ⊎ Q t k) r
then_missing memo P Q None p m = λ h asked. elim asked [ inl a ↦ p h a | inr a ↦ m h a ]
then_missing memo P Q (Some h) p m = (inr m.0, m.1)

-- ---- the arms of an expression

module _ (q : Query) (rules : RuleFile) (memo : List GoalSet) where
  abbrev Missing : Expected → Option Goal → Type 0
  Missing x r = FirstMissing memo (AsksFrom q rules x) r

  -- of the parts' askings
  by_parts : (x : Expected) (r : Option Goal) → FirstMissing memo (AsksBelow q rules x) r → Missing x r
  by_parts x r m = missing_same memo (AsksBelow q rules x) (AsksFrom q rules x) r (λ t k. (asks_parts q rules x t k).1) (λ t k. (asks_parts q rules x t k).0) m

  of_expression : (e whole : PlanExpr) (b : List RuleValue) (r : Option Goal) → e ≡ whole → Missing (Expression whole b) r → Missing (Expression e b) r
  of_expression e whole b r is m = subst (λ (x : PlanExpr). FirstMissing memo (AsksFrom q rules (Expression x b)) r) (sym is) m

  at_part : (part p : PlanExpr) (b : List RuleValue) (r : Option Goal) → p ≡ part → Missing (Expression p b) r → Missing (Expression part b) r
  at_part part p b r same m = subst (λ (x : PlanExpr). FirstMissing memo (AsksFrom q rules (Expression x b)) r) same m

  pub leaf_missing : (e : PlanExpr) (f : Flavour) (args : List ValueExpr) (b : List RuleValue) → e ≡ made.Leaf f args → FirstMissing memo (AsksFrom q rules (Expression e b)) None
  leaf_missing e f args b is = of_expression e (made.Leaf f args) b None is (by_parts (Expression (made.Leaf f args) b) None (λ h asked. absurd asked))

  pub unary_missing : (e : PlanExpr) (f : Flavour) (args : List ValueExpr) (input part : PlanExpr) (b : List RuleValue) (r : Option Goal) → e ≡ made.Unary f args input → part ≡ input
      → FirstMissing memo (AsksFrom q rules (Expression part b)) r → FirstMissing memo (AsksFrom q rules (Expression e b)) r
  unary_missing e f args input part b r is same m =
      of_expression e (expr.Unary f args input) b r (is ∙ made-Unary f args input) (by_parts (Expression (expr.Unary f args input) b) r (at_part input part b r same m))

  pub left_missing : (e : PlanExpr) (f : Flavour) (args : List ValueExpr) (left right part : PlanExpr) (b : List RuleValue) (h : Goal) → e ≡ made.Binary f args left right → part ≡ left
      → FirstMissing memo (AsksFrom q rules (Expression part b)) (Some h) → FirstMissing memo (AsksFrom q rules (Expression e b)) (Some h)
  left_missing e f args left right part b h is same m =
      of_expression e (expr.Binary f args left right) b (Some h) (is ∙ made-Binary f args left right)
      (by_parts (Expression (expr.Binary f args left right) b) (Some h) (let own = at_part left part b (Some h) same m in (inl own.0, own.1)))

  pub right_missing : (e : PlanExpr) (f : Flavour) (args : List ValueExpr) (left right first second : PlanExpr) (b : List RuleValue) (r : Option Goal) → e ≡ made.Binary f args left right → first ≡ left → second ≡ right
      → FirstMissing memo (AsksFrom q rules (Expression first b)) None → FirstMissing memo (AsksFrom q rules (Expression second b)) r → FirstMissing memo (AsksFrom q rules (Expression e b)) r
  right_missing e f args left right first second b r is same_left same_right l m =
      of_expression e (expr.Binary f args left right) b r (is ∙ made-Binary f args left right)
      (by_parts (Expression (expr.Binary f args left right) b) r
      (then_missing memo (AsksFrom q rules (Expression left b)) (AsksFrom q rules (Expression right b)) r (at_part left first b None same_left l) (at_part right second b r same_right m)))

  pub reference_missing : (e : PlanExpr) (star : List ℕ) (args : List ValueExpr) (b values : List RuleValue) (r : Option Goal) → e ≡ made.Reference star args → values ≡ values_of q b args
      → FirstMissing memo (AsksFrom q rules (Call star values)) r → FirstMissing memo (AsksFrom q rules (Expression e b)) r
  reference_missing e star args b values r is are m =
      of_expression e (made.Reference star args) b r is
      (by_parts (Expression (made.Reference star args) b) r (subst (λ (vs : List RuleValue). FirstMissing memo (AsksFrom q rules (Call star vs)) r) are m))

  -- ---- Glue

  one_goal : (t k u l : ℕ) → ForGoal t k ≡ ForGoal u l → (t ≡ u) × (k ≡ l)
  one_goal t k u l is = ((let e : t ≡ u = cc in e), (let e : k ≡ l = cc in e))

  module _ (stream preds : ValueExpr) (b : List RuleValue) (goal : Goal) (is : goal_of q (as_stream (meaning q b stream)).tables (as_preds (meaning q b preds)) ≡ ForGoal goal.tables goal.pushed) where
    pub glue_missing : plans_at memo goal ≡ None → FirstMissing memo (AsksFrom q rules (Expression (made.Glue stream preds) b)) (Some goal)
    glue_missing none = by_parts (Expression (made.Glue stream preds) b) (Some goal) (is, none)

    pub glue_held : IsHeld memo goal → FirstMissing memo (AsksFrom q rules (Expression (made.Glue stream preds) b)) None
    glue_held held = by_parts (Expression (made.Glue stream preds) b) None (λ h asked. (
        let parts = one_goal goal.tables goal.pushed h.tables h.pushed (sym is ∙ asked) in
        let same : goal ≡ h = (λ i. record { tables = parts.0 i; pushed = parts.1 i }) in
        subst (λ (g : Goal). IsHeld memo g) same held))

  pub expression_glue : (e : PlanExpr) (stream preds : ValueExpr) (b : List RuleValue) (r : Option Goal) → e ≡ made.Glue stream preds
      → FirstMissing memo (AsksFrom q rules (Expression (made.Glue stream preds) b)) r → FirstMissing memo (AsksFrom q rules (Expression e b)) r
  expression_glue e stream preds b r is m = of_expression e (made.Glue stream preds) b r is m
