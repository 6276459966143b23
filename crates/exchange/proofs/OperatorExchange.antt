-- Of sets that have what is best where an operator's inputs are expected, the operator makes one that has what is best where it is.
use Rattle.std.proofs.Common.{◌≡◌, true, List, [], refl, arith}
use Rattle.std.specs.Prelude.{Contains}
use Rattle.star_model.specs.Costs.{costs_of}
use Rattle.star_model.specs.Exchange.{CostsPass}
use Rattle.star_model.specs.Expected.{Expected, Expression, operator_of, values_of}
use Rattle.star_model.specs.DerivCases.{Unary, Binary}
use Rattle.star_model.specs.PlanExprCases as expr
use Rattle.star_model.specs.declared.rules.PlanExpr.TheVariants as plain
use Rattle.star_model.specs.declared.query.Query.{Query}
use Rattle.star_model.specs.declared.rules.Flavour.{Flavour}
use Rattle.star_model.specs.declared.rules.PlanExpr.{PlanExpr}
use Rattle.star_model.specs.declared.rules.ValueExpr.{ValueExpr}
use Rattle.star_model.specs.declared.rules.RuleFile.{RuleFile}
use Rattle.star_model.specs.declared.values.RuleValue.{RuleValue}
use Rattle.star_model.proofs.Laws.{better_transitive}
use Rattle.dominance_prune.specs.Gathering.{Gathers, From}
use Rattle.dominance_prune.specs.GatheringCases.{member_above, Gathers-same, Gathers-nothing, Gathers-represented, IsFrontier-has, IsFrontier-none}
use Rattle.lolepop.specs.PlanTrees as tree
use Rattle.lolepop.specs.Derived.{DerivedPlan, vector_of, is_better_plan, AllFit}
use Rattle.lolepop.proofs.Laws.{unary_gives, binary_gives, one_serves, two_serve}
use Rattle.exchange.specs.Places.{IsDerived, IsBestOf, LeafWay, UnaryWay, BinaryWay, OverOne, OverTwo}
use Rattle.exchange.proofs.Derived.{has_card}
use Rattle.exchange.proofs.OperatorWays.{leaf_derived, leaf_way, unary_derived, unary_way, binary_derived, binary_way}

pub better_plan_transitive : (x y z : DerivedPlan) → is_better_plan x y ≡ true → is_better_plan y z ≡ true → is_better_plan x z ≡ true
better_plan_transitive x y z = better_transitive (vector_of x) (vector_of y) (vector_of z)

module _ (q : Query) (rules : RuleFile) where
  -- a member of the set that may stand in place of what is derived there
  pub best_above : (x : Expected) (plans : List DerivedPlan) → IsBestOf q rules x plans → (i : DerivedPlan) → IsDerived q rules x i
      → (m : DerivedPlan) × Contains plans m × (is_better_plan m i ≡ true)
  best_above x plans best i derived = member_above is_better_plan plans i (best.gathered.covers i derived)

  pub best_derived : (x : Expected) (plans : List DerivedPlan) → IsBestOf q rules x plans → (m : DerivedPlan) → Contains plans m → IsDerived q rules x m
  best_derived x plans best m among = IsFrontier-has is_better_plan (IsDerived q rules x) plans best m among

  -- nothing is derived at the place, so the empty set has what is best
  pub nothing_is_best : (x : Expected) → ((e : DerivedPlan) → IsDerived q rules x e → ⊥) → IsBestOf q rules x []
  nothing_is_best x none =
      record { gathered = Gathers-nothing is_better_plan (IsDerived q rules x) [] none; apart = λ i j e less within. absurd (let no : ⊥ = omega (arith, within) in no) }

  -- each vector in a set of what is best is that of its plan
  pub best_fit : (x : Expected) (plans : List DerivedPlan) → IsBestOf q rules x plans → AllFit q (costs_of rules) plans
  best_fit x plans best e has = (best_derived x plans best e has).fits

  -- nothing is derived where the left input is: so nothing is over the two, whatever the right input is
  pub binary_nothing : (f : Flavour) (args : List ValueExpr) (d e : PlanExpr) (b : List RuleValue) → IsBestOf q rules (Expression d b) []
      → (x : DerivedPlan) → IsDerived q rules (Expression (expr.Binary f args d e) b) x → ⊥
  binary_nothing f args d e b none x derived =
      let way = binary_way q rules f args b d e x derived in IsFrontier-none is_better_plan (IsDerived q rules (Expression d b)) none way.0 way.2

  pub leaf_exchange : (f : Flavour) (args : List ValueExpr) (b : List RuleValue) (old new : List DerivedPlan) → Gathers is_better_plan old new (LeafWay q (costs_of rules) f args b)
      → Gathers is_better_plan old new (IsDerived q rules (Expression (plain.Leaf f args) b))
  leaf_exchange f args b old new g =
      Gathers-same is_better_plan (LeafWay q (costs_of rules) f args b) (IsDerived q rules (Expression (plain.Leaf f args) b)) old new (leaf_derived q rules f args b) (leaf_way q rules f args b) g

module _ (q : Query) (rules : RuleFile) (pass : CostsPass (costs_of rules)) where
  pub unary_exchange : (f : Flavour) (args : List ValueExpr) (e : PlanExpr) (b : List RuleValue) (inputs old new : List DerivedPlan) → IsBestOf q rules (Expression e b) inputs
      → Gathers is_better_plan old new (From inputs (OverOne q (costs_of rules) f (operator_of f (values_of q b args))))
      → Gathers is_better_plan old new (IsDerived q rules (Expression (expr.Unary f args e) b))
  unary_exchange f args e b inputs old new best g =
      Gathers-represented is_better_plan better_plan_transitive
      (From inputs (OverOne q (costs_of rules) f (operator_of f (values_of q b args)))) (IsDerived q rules (Expression (expr.Unary f args e) b)) old new
      (λ x made. unary_derived q rules f args b e x (made.0, best_derived q rules (Expression e b) inputs best made.0 made.1, made.2))
      (λ x derived. reach x (unary_way q rules f args b e x derived))
      g
    where
      reach : (x : DerivedPlan) → UnaryWay q rules f args e b x
          → (y : DerivedPlan) × From inputs (OverOne q (costs_of rules) f (operator_of f (values_of q b args))) y × (is_better_plan y x ≡ true)
      reach x (i, derived, made) =
          let op = operator_of f (values_of q b args) in
          let m = best_above q rules (Expression e b) inputs best i derived in
          let among = best_derived q rules (Expression e b) inputs best m.0 m.1 in
          let steps = (unary_gives q (costs_of rules) f op i x).0 made in
          let s = one_serves q (costs_of rules) pass op (vector_of m.0) (vector_of i) (m.2, has_card q rules (Expression e b) m.0 among, has_card q rules (Expression e b) i derived) (vector_of x) steps.0 in
          let y : DerivedPlan = record { tree = tree.Unary op s.0 m.0.tree; deriv = Unary f m.0.deriv } in
          (y, (m.0, m.1, (unary_gives q (costs_of rules) f op m.0 y).1 (s.1, refl)), s.2)

  pub binary_exchange : (f : Flavour) (args : List ValueExpr) (d e : PlanExpr) (b : List RuleValue) (lefts rights old new : List DerivedPlan) → IsBestOf q rules (Expression d b) lefts
      → IsBestOf q rules (Expression e b) rights
      → Gathers is_better_plan old new (From lefts (λ l. From rights (OverTwo q (costs_of rules) f (operator_of f (values_of q b args)) l)))
      → Gathers is_better_plan old new (IsDerived q rules (Expression (expr.Binary f args d e) b))
  binary_exchange f args d e b lefts rights old new best_left best_right g =
      Gathers-represented is_better_plan better_plan_transitive
      (From lefts (λ l. From rights (OverTwo q (costs_of rules) f (operator_of f (values_of q b args)) l))) (IsDerived q rules (Expression (expr.Binary f args d e) b)) old new
      (λ x made.
      binary_derived q rules f args b d e x (
        made.0,
        made.2.0,
        best_derived q rules (Expression d b) lefts best_left made.0 made.1,
        best_derived q rules (Expression e b) rights best_right made.2.0 made.2.1,
        made.2.2,
      ))
      (λ x derived. reach x (binary_way q rules f args b d e x derived))
      g
    where
      reach : (x : DerivedPlan) → BinaryWay q rules f args d e b x
          → (y : DerivedPlan) × From lefts (λ l. From rights (OverTwo q (costs_of rules) f (operator_of f (values_of q b args)) l)) y × (is_better_plan y x ≡ true)
      reach x (i, j, left, right, made) =
          let op = operator_of f (values_of q b args) in
          let m = best_above q rules (Expression d b) lefts best_left i left in
          let n = best_above q rules (Expression e b) rights best_right j right in
          let m_there = best_derived q rules (Expression d b) lefts best_left m.0 m.1 in
          let n_there = best_derived q rules (Expression e b) rights best_right n.0 n.1 in
          let steps = (binary_gives q (costs_of rules) f op i j x).0 made in
          let s = two_serve q (costs_of rules) pass op (vector_of m.0) (vector_of i) (vector_of n.0) (vector_of j)
          (m.2, has_card q rules (Expression d b) m.0 m_there, has_card q rules (Expression d b) i left)
          (n.2, has_card q rules (Expression e b) n.0 n_there, has_card q rules (Expression e b) j right)
          (vector_of x) steps.0 in
          let y : DerivedPlan = record { tree = tree.Binary op s.0 m.0.tree n.0.tree; deriv = Binary f m.0.deriv n.0.deriv } in
          (y, (m.0, m.1, (n.0, n.1, (binary_gives q (costs_of rules) f op m.0 n.0 y).1 (s.1, refl))), s.2)
