-- What is derived where Glue is expected: its chains over what is derived for its goal.
use Rattle.std.proofs.Common.{◌≡◌, ℕ, ◌+◌, Bool, true, List, [], ◌∷◌, Option, Some, None, refl, ap, sym, ◌∙◌, subst, if◌then◌else◌}
use Rattle.std.specs.Prelude.{option_and_then, ◌↔◌}
use Rattle.star_model.specs.Costs.{costs_of}
use Rattle.star_model.specs.Requirements.{satisfies}
use Rattle.star_model.specs.Goals.{is_target}
use Rattle.star_model.specs.Expected.{Expected, ForQuery, ForGoal, Call, Expression, glue_of, as_glue, as_leaf, as_unary, as_binary, goal_body, reference_body, leaf_of, unary_of, binary_of}
use Rattle.star_model.specs.Derivations.{plan_of}
use Rattle.star_model.specs.Judging.{vector_or, if_valid, only_if, fitting, judge, node_count}
use Rattle.star_model.specs.Operators.{step}
use Rattle.star_model.specs.Plans.{vector, is_chain, chain_over, chain_vector, op_of}
use Rattle.star_model.specs.DerivCases.{Glue, Goal, Reference, Unary, Binary}
use Rattle.star_model.specs.declared.derivations.Deriv.TheVariants.{Leaf}
use Rattle.star_model.specs.PlanExprCases as expr
use Rattle.star_model.specs.declared.rules.PlanExpr.TheVariants as plain
use Rattle.star_model.specs.declared.query.Query.{Query}
use Rattle.star_model.specs.declared.costs.CostEntry.{CostEntry}
use Rattle.star_model.specs.declared.plans.GlueOp.{GlueOp}
use Rattle.star_model.specs.declared.plans.Goal as goal
use Rattle.star_model.specs.declared.plans.Props.{Props}
use Rattle.star_model.specs.declared.plans.Require.{Require}
use Rattle.star_model.specs.declared.rules.Flavour.{Flavour}
use Rattle.star_model.specs.declared.rules.RuleFile.{RuleFile}
use Rattle.star_model.specs.declared.derivations.Deriv.{Deriv}
use Rattle.lolepop.specs.PlanTrees.{PlanTree, plan_under, top_vector, Fits}
use Rattle.lolepop.specs.PlanTrees as tree
use Rattle.lolepop.specs.Derived.{DerivedPlan, vector_of, enforced, chained, GluesTo, under_glue}
use Rattle.lolepop.proofs.Laws.{fits_vector, enforced_gives}
use Rattle.exchange.specs.Places.{IsDerived, GlueWay}
use Rattle.exchange.proofs.Reading.{fits, valid, has, bind, some_is, chosen, passes_test, unfit}
use Rattle.exchange.proofs.Derived.{judge_derived, tree_derived, derived_from, same_plan}

-- ---- chains

module _ (q : Query) (costs : List CostEntry) (r : Require) where
  pub chained_vector : (chain : List GlueOp) (e m : DerivedPlan) → chained q costs r chain e ≡ Some m → chain_vector q costs r chain (vector_of e) ≡ Some (vector_of m)
  chained_vector [] e m h = ap (λ z. Some (vector_of z)) (some_is e m h)
  chained_vector (o ∷ os) e m h =
      let b = bind (chained q costs r os) (enforced q costs r o e) m h in
      let s = (enforced_gives q costs r o e b.0).0 b.1 in
      ap (option_and_then (chain_vector q costs r os)) s.0 ∙ chained_vector os b.0 m b.2

  pub chained_some : (chain : List GlueOp) (e : DerivedPlan) (w : Props) → chain_vector q costs r chain (vector_of e) ≡ Some w
      → (m : DerivedPlan) × (chained q costs r chain e ≡ Some m) × (vector_of m ≡ w)
  chained_some [] e w h = (e, refl, some_is (vector_of e) w h)
  chained_some (o ∷ os) e w h =
      let b = bind (chain_vector q costs r os) (step q costs (op_of r o) (vector_of e ∷ [])) w h in
      let next : DerivedPlan = record e { tree = tree.Unary (op_of r o) b.0 e.tree } in
      let by = (enforced_gives q costs r o e next).1 (b.1, refl) in
      let rest = chained_some os next w b.2 in
      (rest.0, ap (option_and_then (chained q costs r os)) by ∙ rest.1, rest.2)

  -- what a chain makes of a plan that fits
  pub record Chains (chain : List GlueOp) (e m : DerivedPlan) : Type 0 where
    pub over : plan_under m.tree ≡ chain_over r chain (plan_under e.tree)
    pub fits : Fits q costs m.tree
    pub deriv : m.deriv ≡ e.deriv

  pub chained_over : (chain : List GlueOp) (e m : DerivedPlan) → chained q costs r chain e ≡ Some m → Fits q costs e.tree → Chains chain e m
  unfolding vector
  chained_over [] e m h f =
      let same = some_is e m h in
      record { over = ap (λ z. plan_under z.tree) (sym same); fits = subst (λ (z : DerivedPlan). Fits q costs z.tree) same f; deriv = ap (λ z. z.deriv) (sym same) }
  chained_over (o ∷ os) e m h f =
      let b = bind (chained q costs r os) (enforced q costs r o e) m h in
      let s = (enforced_gives q costs r o e b.0).0 b.1 in
      let fit : Fits q costs (tree.Unary (op_of r o) (vector_of b.0) e.tree) =
      (ap (option_and_then (λ w. step q costs (op_of r o) (w ∷ []))) (fits_vector q costs e.tree f) ∙ s.0, f) in
      let next : Fits q costs b.0.tree = subst (λ (z : DerivedPlan). Fits q costs z.tree) (sym s.1) fit in
      let rest = chained_over os b.0 m b.2 next in
      record {
        over = rest.over ∙ ap (λ z. chain_over r os (plan_under z.tree)) s.1;
        fits = rest.fits;
        deriv = rest.deriv ∙ ap (λ z. z.deriv) s.1;
      }

-- ---- Glue nodes

module _ (q : Query) (rules : RuleFile) where
  goal_unfit : (k : goal.Goal) (split : Option (ℕ × ℕ)) (x : Expected) (g : Require × Expected) → glue_of q x ≡ Some g → goal_body k split x ≡ None
  unfolding leaf_of unary_of binary_of
  goal_unfit k split ForQuery g is = refl
  goal_unfit k split (ForGoal s j) g is = cc
  goal_unfit k split (Call star b) g is = cc
  goal_unfit k split (Expression (plain.Glue t p) b) g is = refl
  goal_unfit k split (Expression (plain.Reference star as_) b) g is = cc
  goal_unfit k split (Expression (plain.Leaf m vs) b) g is = cc
  goal_unfit k split (Expression (expr.Unary m vs e) b) g is = cc
  goal_unfit k split (Expression (expr.Binary m vs c e) b) g is = cc

  reference_unfit : (name : List ℕ) (n : ℕ) (picks : List ℕ) (x : Expected) (g : Require × Expected) → glue_of q x ≡ Some g → reference_body q rules name n picks x ≡ None
  unfolding leaf_of unary_of binary_of
  reference_unfit name n picks ForQuery g is = refl
  reference_unfit name n picks (ForGoal s j) g is = cc
  reference_unfit name n picks (Call star b) g is = cc
  reference_unfit name n picks (Expression (plain.Glue t p) b) g is = refl
  reference_unfit name n picks (Expression (plain.Reference star as_) b) g is = cc
  reference_unfit name n picks (Expression (plain.Leaf m vs) b) g is = cc
  reference_unfit name n picks (Expression (expr.Unary m vs e) b) g is = cc
  reference_unfit name n picks (Expression (expr.Binary m vs c e) b) g is = cc

  leaf_unfit : (f : Flavour) (x : Expected) (g : Require × Expected) → glue_of q x ≡ Some g → as_leaf q f x ≡ None
  unfolding leaf_of unary_of binary_of
  leaf_unfit f ForQuery g is = refl
  leaf_unfit f (ForGoal s j) g is = cc
  leaf_unfit f (Call star b) g is = cc
  leaf_unfit f (Expression (plain.Glue t p) b) g is = refl
  leaf_unfit f (Expression (plain.Reference star as_) b) g is = cc
  leaf_unfit f (Expression (plain.Leaf m vs) b) g is = cc
  leaf_unfit f (Expression (expr.Unary m vs e) b) g is = cc
  leaf_unfit f (Expression (expr.Binary m vs c e) b) g is = cc

  unary_unfit : (f : Flavour) (x : Expected) (g : Require × Expected) → glue_of q x ≡ Some g → as_unary q f x ≡ None
  unfolding leaf_of unary_of binary_of
  unary_unfit f ForQuery g is = refl
  unary_unfit f (ForGoal s j) g is = cc
  unary_unfit f (Call star b) g is = cc
  unary_unfit f (Expression (plain.Glue t p) b) g is = refl
  unary_unfit f (Expression (plain.Reference star as_) b) g is = cc
  unary_unfit f (Expression (plain.Leaf m vs) b) g is = cc
  unary_unfit f (Expression (expr.Unary m vs e) b) g is = cc
  unary_unfit f (Expression (expr.Binary m vs c e) b) g is = cc

  binary_unfit : (f : Flavour) (x : Expected) (g : Require × Expected) → glue_of q x ≡ Some g → as_binary q f x ≡ None
  unfolding leaf_of unary_of binary_of
  binary_unfit f ForQuery g is = refl
  binary_unfit f (ForGoal s j) g is = cc
  binary_unfit f (Call star b) g is = cc
  binary_unfit f (Expression (plain.Glue t p) b) g is = refl
  binary_unfit f (Expression (plain.Reference star as_) b) g is = cc
  binary_unfit f (Expression (plain.Leaf m vs) b) g is = cc
  binary_unfit f (Expression (expr.Unary m vs e) b) g is = cc
  binary_unfit f (Expression (expr.Binary m vs c e) b) g is = cc

  module _ (x y : Expected) (r : Require) (glues : glue_of q x ≡ Some (r, y)) where
    chain_fits : (chain : List GlueOp) → is_chain r chain ≡ true → as_glue q chain x ≡ Some (r, y)
    chain_fits chain one =
        ap (option_and_then (λ (g : Require × Expected). if is_chain g.0 chain then Some g else None)) glues ∙ ap (λ (c : Bool). if c then Some (r, y) else None) one

    pub glue_derived : (z : DerivedPlan) → GlueWay q rules r y z → IsDerived q rules x z
    unfolding judge plan_of
    glue_derived z (i, derived, (chain, made, one, by, satisfied, is)) =
        let c = chained_over q (costs_of rules) r chain i made by derived.fits in
        let judged = judge_derived q rules y i 2 derived in
        let passed : option_and_then (only_if (λ w. satisfies q w r)) (chain_vector q (costs_of rules) r chain (vector_of i)) ≡ Some (vector_of made) =
        ap (option_and_then (only_if (λ w. satisfies q w r))) (chained_vector q (costs_of rules) r chain i made by) ∙ ap (λ (t : Bool). if t then Some (vector_of made) else None) satisfied in
        let there : IsDerived q rules x (record { tree = made.tree; deriv = Glue chain i.deriv }) =
        derived_from q rules x made.tree (Glue chain i.deriv) 1
        (ap (λ a. fitting 1 a (λ g. if_valid (judge q rules i.deriv g.1 2) (λ v. vector_or 1 (option_and_then (only_if (λ w. satisfies q w g.0)) (chain_vector q (costs_of rules) g.0 chain v))))) (chain_fits chain one)
        ∙ ap (λ j. if_valid j (λ v. vector_or 1 (option_and_then (only_if (λ w. satisfies q w r)) (chain_vector q (costs_of rules) r chain v)))) judged ∙ ap (vector_or 1) passed)
        (ap (option_and_then (λ g. option_and_then (λ p. Some (chain_over g.0 chain p)) (plan_of q rules i.deriv g.1))) (chain_fits chain one)
        ∙ ap (option_and_then (λ p. Some (chain_over r chain p))) derived.plan ∙ ap Some (sym c.over))
        c.fits in
        let same : z ≡ record { tree = made.tree; deriv = Glue chain i.deriv } = is ∙ (λ n. record { tree = made.tree; deriv = Glue chain (c.deriv n) }) in
        subst (IsDerived q rules x) (sym same) there

    glue_at : (t : PlanTree) (d : Deriv) → IsDerived q rules x (record { tree = t; deriv = d }) → GlueWay q rules r y (record { tree = t; deriv = d })
    unfolding judge
    glue_at t (Glue chain d) h =
        let z : DerivedPlan = record { tree = t; deriv = Glue chain d } in
        let a = fits 1 (as_glue q chain x) (λ g. if_valid (judge q rules d g.1 2) (λ v. vector_or 1 (option_and_then (only_if (λ w. satisfies q w g.0)) (chain_vector q (costs_of rules) g.0 chain v)))) (top_vector t) (judge_derived q rules x z 1 h) in
        let k = chosen (is_chain r chain) (r, y) a.0 (sym (ap (option_and_then (λ (g : Require × Expected). if is_chain g.0 chain then Some g else None)) glues) ∙ a.1) in
        let u = valid (judge q rules d a.0.1 2) (λ v. vector_or 1 (option_and_then (only_if (λ w. satisfies q w a.0.0)) (chain_vector q (costs_of rules) a.0.0 chain v))) (top_vector t) a.2 in
        let i = tree_derived q rules d y 2 u.0 (ap (λ g. judge q rules d g.1 2) k.1 ∙ u.1) in
        let e : DerivedPlan = record { tree = i.0; deriv = d } in
        let w = bind (only_if (λ w. satisfies q w a.0.0)) (chain_vector q (costs_of rules) a.0.0 chain u.0) (top_vector t) (has 1 (option_and_then (only_if (λ w. satisfies q w a.0.0)) (chain_vector q (costs_of rules) a.0.0 chain u.0)) (top_vector t) u.2) in
        let p = passes_test (λ v. satisfies q v a.0.0) w.0 (top_vector t) w.2 in
        let c : chain_vector q (costs_of rules) r chain (vector_of e) ≡ Some (top_vector t) =
        (λ n. chain_vector q (costs_of rules) (k.1 n).0 chain (i.2 n)) ∙ w.1 ∙ ap Some p.1 in
        let m = chained_some q (costs_of rules) r chain e (top_vector t) c in
        let s : satisfies q (vector_of m.0) r ≡ true = (λ n. satisfies q (m.2 n) (k.1 n).0) ∙ ap (λ v. satisfies q v a.0.0) (sym p.1) ∙ p.0 in
        let way : GluesTo q (costs_of rules) r e (under_glue chain m.0) = (chain, m.0, k.0, m.1, s, refl) in
        let over = chained_over q (costs_of rules) r chain e m.0 m.1 i.1.fits in
        let same : under_glue chain m.0 ≡ z = same_plan q rules x (under_glue chain m.0) z (glue_derived (under_glue chain m.0) (e, i.1, way)) h (ap (Glue chain) over.deriv) in
        (e, i.1, (chain, m.0, k.0, m.1, s, sym same))
    glue_at t (Goal g split d) h = absurd (unfit 1 (top_vector t) (sym (ap (λ a. fitting 1 a (λ y. if_valid (judge q rules d y 2) (λ v. vector_or 1 (only_if (is_target q g.tables g.pushed) v)))) (goal_unfit g split x (r, y) glues)) ∙ judge_derived q rules x (record { tree = t; deriv = Goal g split d }) 1 h))
    glue_at t (Reference star n picks d) h = absurd (unfit 1 (top_vector t) (sym (ap (λ a. fitting 1 a (λ y. judge q rules d y 2)) (reference_unfit star n picks x (r, y) glues)) ∙ judge_derived q rules x (record { tree = t; deriv = Reference star n picks d }) 1 h))
    glue_at t (Leaf g) h = absurd (unfit 1 (top_vector t) (sym (ap (λ a. fitting 1 a (λ o. vector_or 1 (step q (costs_of rules) o []))) (leaf_unfit g x (r, y) glues)) ∙ judge_derived q rules x (record { tree = t; deriv = Leaf g }) 1 h))
    glue_at t (Unary g d) h = absurd (unfit 1 (top_vector t) (sym (ap (λ a. fitting 1 a (λ y. if_valid (judge q rules d y.1 2) (λ v. vector_or 1 (step q (costs_of rules) y.0 (v ∷ []))))) (unary_unfit g x (r, y) glues)) ∙ judge_derived q rules x (record { tree = t; deriv = Unary g d }) 1 h))
    glue_at t (Binary g c d) h = absurd (unfit 1 (top_vector t) (sym (ap (λ a. fitting 1 a (λ y. if_valid (judge q rules c y.1 2) (λ v. if_valid (judge q rules d y.2 (2 + node_count c)) (λ w. vector_or 1 (step q (costs_of rules) y.0 (v ∷ w ∷ [])))))) (binary_unfit g x (r, y) glues)) ∙ judge_derived q rules x (record { tree = t; deriv = Binary g c d }) 1 h))

    pub glue_way : (z : DerivedPlan) → IsDerived q rules x z → GlueWay q rules r y z
    glue_way z h = glue_at z.tree z.deriv h

    pub glue_ways : (z : DerivedPlan) → IsDerived q rules x z ↔ GlueWay q rules r y z
    glue_ways z = (glue_way z, glue_derived z)
