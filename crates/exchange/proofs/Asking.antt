-- A place asks for what its parts ask for.
use Rattle.std.proofs.Common.{◌≡◌, ℕ, inl, inr, List, refl, sym, subst}
use Rattle.std.specs.Prelude.{◌↔◌}
use Rattle.star_model.specs.Expected.{Expected, ForQuery, ForGoal, Call, Expression, root_call, values_of}
use Rattle.star_model.specs.AskedGoals.{Below, Leads, Asks}
use Rattle.star_model.specs.PlanExprCases as expr
use Rattle.star_model.specs.declared.rules.PlanExpr.TheVariants as plain
use Rattle.star_model.specs.declared.query.Query.{Query}
use Rattle.star_model.specs.declared.rules.ValueExpr.{ValueExpr}
use Rattle.star_model.specs.declared.rules.RuleFile.{RuleFile}
use Rattle.star_model.specs.declared.values.RuleValue.{RuleValue}
use Rattle.exchange.specs.Asking.{IsGlueFor, AsksFrom, AsksBelow}

module _ (q : Query) (rules : RuleFile) where
  pub asks_more : (x y : Expected) (t k : ℕ) → Below q rules x y → AsksFrom q rules y t k → AsksFrom q rules x t k
  asks_more x y t k below a =
      record { stream = a.stream; preds = a.preds; bindings = a.bindings; leads = Leads.there x y (Expression (plain.Glue a.stream a.preds) a.bindings) below a.leads; goal = a.goal }

  asks_by_part : (x y : Expected) (t k : ℕ) → Below q rules x y → AsksFrom q rules y t k → AsksBelow q rules x t k
  asks_by_part x y t k (Below.by_split s j split may) a = (split, may, a)
  asks_by_part x y t k (Below.by_alternative star b n picks z is) a = (n, picks, z, is, a)
  asks_by_part x y t k (Below.by_reference star args b) a = a
  asks_by_part x y t k (Below.by_input f args e b) a = a
  asks_by_part x y t k (Below.by_left f args d e b) a = inl a
  asks_by_part x y t k (Below.by_right f args d e b) a = inr a

  asks_by_leads : (x z : Expected) (t k : ℕ) (stream preds : ValueExpr) (b : List RuleValue) → Leads q rules x z → z ≡ Expression (plain.Glue stream preds) b → IsGlueFor q rules stream preds b t k
      → AsksBelow q rules x t k
  asks_by_leads x z t k stream preds b (Leads.here u) is goal = subst (λ (y : Expected). AsksBelow q rules y t k) (sym is) goal
  asks_by_leads x z t k stream preds b (Leads.there u y w below more) is goal =
      asks_by_part u y t k below (record { stream = stream; preds = preds; bindings = b; leads = subst (Leads q rules y) is more; goal = goal })

  asks_back : (x : Expected) (t k : ℕ) → AsksFrom q rules x t k → AsksBelow q rules x t k
  asks_back x t k a = asks_by_leads x (Expression (plain.Glue a.stream a.preds) a.bindings) t k a.stream a.preds a.bindings a.leads refl a.goal

  asks_forth : (x : Expected) (t k : ℕ) → AsksBelow q rules x t k → AsksFrom q rules x t k
  asks_forth ForQuery t k a = absurd a
  asks_forth (ForGoal s j) t k (split, may, a) = asks_more (ForGoal s j) (root_call s j split) t k (Below.by_split s j split may) a
  asks_forth (Call star b) t k (n, picks, y, is, a) = asks_more (Call star b) y t k (Below.by_alternative star b n picks y is) a
  asks_forth (Expression (plain.Reference star args) b) t k a = asks_more (Expression (plain.Reference star args) b) (Call star (values_of q b args)) t k (Below.by_reference star args b) a
  asks_forth (Expression (plain.Glue stream preds) b) t k a =
      record { stream = stream; preds = preds; bindings = b; leads = Leads.here (Expression (plain.Glue stream preds) b); goal = a }
  asks_forth (Expression (plain.Leaf f args) b) t k a = absurd a
  asks_forth (Expression (expr.Unary f args e) b) t k a = asks_more (Expression (expr.Unary f args e) b) (Expression e b) t k (Below.by_input f args e b) a
  asks_forth (Expression (expr.Binary f args d e) b) t k (inl a) = asks_more (Expression (expr.Binary f args d e) b) (Expression d b) t k (Below.by_left f args d e b) a
  asks_forth (Expression (expr.Binary f args d e) b) t k (inr a) = asks_more (Expression (expr.Binary f args d e) b) (Expression e b) t k (Below.by_right f args d e b) a

  pub asks_parts : (x : Expected) (t k : ℕ) → AsksFrom q rules x t k ↔ AsksBelow q rules x t k
  asks_parts x t k = (asks_back x t k, asks_forth x t k)

  asks_of_goal : (s j t k : ℕ) → Asks q rules s j t k → AsksFrom q rules (ForGoal s j) t k
  asks_of_goal s j t k (Asks.by_glue u l m n stream preds b leads goal) = record { stream = stream; preds = preds; bindings = b; leads = leads; goal = goal }

  goal_asks : (s j t k : ℕ) → AsksFrom q rules (ForGoal s j) t k → Asks q rules s j t k
  goal_asks s j t k a = Asks.by_glue s j t k a.stream a.preds a.bindings a.leads a.goal

  -- a goal asks for another as its place does
  pub asks_goal : (s j t k : ℕ) → Asks q rules s j t k ↔ AsksFrom q rules (ForGoal s j) t k
  asks_goal s j t k = (asks_of_goal s j t k, goal_asks s j t k)
