-- What is derived where an operator is expected: the operator over what is derived where its inputs are.
use Rattle.std.proofs.Common.{◌≡◌, ℕ, ◌+◌, true, List, [], ◌∷◌, Some, None, refl, ap, sym, ◌∙◌, subst, if◌then◌else◌}
use Rattle.std.specs.Prelude.{option_and_then, ◌↔◌}
use Rattle.std.proofs.lemmas.Bool.{eq-eqb}
use Rattle.star_model.specs.Costs.{costs_of, same_flavour, row_of}
use Rattle.star_model.specs.Expected.{Expression, as_leaf, as_unary, as_binary, leaf_of, unary_of, binary_of, operator_of, values_of}
use Rattle.star_model.specs.Derivations.{plan_of}
use Rattle.star_model.specs.Judging.{Vector, vector_or, if_valid, fitting, judge, node_count}
use Rattle.star_model.specs.Operators.{step}
use Rattle.star_model.specs.Plans.{vector}
use Rattle.star_model.specs.DerivCases.{Glue, Goal, Reference, Unary, Binary}
use Rattle.star_model.specs.declared.derivations.Deriv.TheVariants.{Leaf}
use Rattle.star_model.specs.PlanCases as plan
use Rattle.star_model.specs.declared.plans.Plan.TheVariants as bare
use Rattle.star_model.specs.PlanExprCases as expr
use Rattle.star_model.specs.declared.rules.PlanExpr.TheVariants as plain
use Rattle.star_model.specs.declared.query.Query.{Query}
use Rattle.star_model.specs.declared.plans.Op.{Op}
use Rattle.star_model.specs.declared.plans.Props.{Props}
use Rattle.star_model.specs.declared.rules.Flavour.{Flavour}
use Rattle.star_model.specs.declared.rules.PlanExpr.{PlanExpr}
use Rattle.star_model.specs.declared.rules.ValueExpr.{ValueExpr}
use Rattle.star_model.specs.declared.rules.RuleFile.{RuleFile}
use Rattle.star_model.specs.declared.values.RuleValue.{RuleValue}
use Rattle.star_model.specs.declared.derivations.Deriv.{Deriv}
use Rattle.star_model.proofs.Laws.{one_flavour}
use Rattle.lolepop.specs.PlanTrees.{PlanTree, plan_under, top_vector, Fits}
use Rattle.lolepop.specs.PlanTrees as tree
use Rattle.lolepop.specs.Derived.{DerivedPlan, vector_of}
use Rattle.lolepop.proofs.Laws.{fits_vector, leaf_gives, unary_gives, binary_gives}
use Rattle.exchange.specs.Places.{IsDerived, LeafWay, UnaryWay, BinaryWay, OverOne, OverTwo}
use Rattle.exchange.proofs.Reading.{fits, valid, has, bind, some_is, chosen, unfit}
use Rattle.exchange.proofs.Derived.{judge_derived, tree_derived, derived_from, same_plan}

its_own_flavour : (f : Flavour) → same_flavour f f ≡ true
its_own_flavour f = eq-eqb (row_of f) (row_of f) refl

module _ (q : Query) (rules : RuleFile) (f : Flavour) (args : List ValueExpr) (b : List RuleValue) where
  leaf_fits_here : as_leaf q f (Expression (plain.Leaf f args) b) ≡ Some (operator_of f (values_of q b args))
  unfolding leaf_of
  leaf_fits_here = ap (λ c. option_and_then (λ (vs : List ValueExpr). Some (operator_of f (values_of q b vs))) (if c then Some args else None)) (its_own_flavour f)

  pub leaf_derived : (x : DerivedPlan) → LeafWay q (costs_of rules) f args b x → IsDerived q rules (Expression (plain.Leaf f args) b) x
  unfolding judge plan_of vector
  leaf_derived x made =
      let op = operator_of f (values_of q b args) in
      let given = (leaf_gives q (costs_of rules) f op x).0 made in
      subst (IsDerived q rules (Expression (plain.Leaf f args) b)) (sym given.1)
      (derived_from q rules (Expression (plain.Leaf f args) b) (tree.Leaf op (vector_of x)) (Leaf f) 1
      (ap (λ a. fitting 1 a (λ p. vector_or 1 (step q (costs_of rules) p []))) leaf_fits_here ∙ ap (vector_or 1) given.0)
      (ap (option_and_then (λ p. Some (bare.Leaf p))) leaf_fits_here) given.0)

  leaf_at : (t : PlanTree) (d : Deriv) → IsDerived q rules (Expression (plain.Leaf f args) b) (record { tree = t; deriv = d }) → LeafWay q (costs_of rules) f args b (record { tree = t; deriv = d })
  unfolding judge leaf_of unary_of binary_of
  leaf_at t (Leaf g) h =
      let x : DerivedPlan = record { tree = t; deriv = Leaf g } in
      let a = fits 1 (as_leaf q g (Expression (plain.Leaf f args) b)) (λ p. vector_or 1 (step q (costs_of rules) p [])) (top_vector t) (judge_derived q rules (Expression (plain.Leaf f args) b) x 1 h) in
      let c = bind (λ vs. Some (operator_of g (values_of q b vs))) (leaf_of g (plain.Leaf f args)) a.0 a.1 in
      let s = chosen (same_flavour g f) args c.0 c.1 in
      let same : g ≡ f = one_flavour g f s.0 in
      let op : Op = operator_of f (values_of q b args) in
      let is : a.0 ≡ op = sym (some_is (operator_of g (values_of q b c.0)) a.0 c.2) ∙ (λ i. operator_of (same i) (values_of q b (sym s.1 i))) in
      let steps : step q (costs_of rules) op [] ≡ Some (top_vector t) = ap (λ o. step q (costs_of rules) o []) (sym is) ∙ has 1 (step q (costs_of rules) a.0 []) (top_vector t) a.2 in
      let made : DerivedPlan = record { tree = tree.Leaf op (top_vector t); deriv = Leaf f } in
      let by : LeafWay q (costs_of rules) f args b made = (leaf_gives q (costs_of rules) f op made).1 (steps, refl) in
      let here : made ≡ x = same_plan q rules (Expression (plain.Leaf f args) b) made x (leaf_derived made by) h (ap (λ k. Leaf k) (sym same)) in
      by ∙ ap Some here
  leaf_at t (Glue chain d) h = absurd (unfit 1 (top_vector t) (judge_derived q rules (Expression (plain.Leaf f args) b) (record { tree = t; deriv = Glue chain d }) 1 h))
  leaf_at t (Goal g split d) h = absurd (unfit 1 (top_vector t) (judge_derived q rules (Expression (plain.Leaf f args) b) (record { tree = t; deriv = Goal g split d }) 1 h))
  leaf_at t (Reference star n picks d) h = absurd (unfit 1 (top_vector t) (judge_derived q rules (Expression (plain.Leaf f args) b) (record { tree = t; deriv = Reference star n picks d }) 1 h))
  leaf_at t (Unary g d) h = absurd (unfit 1 (top_vector t) (judge_derived q rules (Expression (plain.Leaf f args) b) (record { tree = t; deriv = Unary g d }) 1 h))
  leaf_at t (Binary g c d) h = absurd (unfit 1 (top_vector t) (judge_derived q rules (Expression (plain.Leaf f args) b) (record { tree = t; deriv = Binary g c d }) 1 h))

  pub leaf_way : (x : DerivedPlan) → IsDerived q rules (Expression (plain.Leaf f args) b) x → LeafWay q (costs_of rules) f args b x
  leaf_way x h = leaf_at x.tree x.deriv h

  pub leaf_ways : (x : DerivedPlan) → IsDerived q rules (Expression (plain.Leaf f args) b) x ↔ LeafWay q (costs_of rules) f args b x
  leaf_ways x = (leaf_way x, leaf_derived x)

  module _ (e : PlanExpr) where
    fits_here : as_unary q f (Expression (expr.Unary f args e) b) ≡ Some (operator_of f (values_of q b args), Expression e b)
    unfolding unary_of
    fits_here = ap (λ c. option_and_then (λ (p : List ValueExpr × PlanExpr). Some (operator_of f (values_of q b p.0), Expression p.1 b)) (if c then Some (args, e) else None)) (its_own_flavour f)

    pub unary_derived : (x : DerivedPlan) → UnaryWay q rules f args e b x → IsDerived q rules (Expression (expr.Unary f args e) b) x
    unfolding judge plan_of vector
    unary_derived x (i, derived, made) =
        let op = operator_of f (values_of q b args) in
        let given = (unary_gives q (costs_of rules) f op i x).0 made in
        let judged = judge_derived q rules (Expression e b) i 2 derived in
        subst (IsDerived q rules (Expression (expr.Unary f args e) b)) (sym given.1)
        (derived_from q rules (Expression (expr.Unary f args e) b) (tree.Unary op (vector_of x) i.tree) (Unary f i.deriv) 1
        (ap (λ a. fitting 1 a (λ y. if_valid (judge q rules i.deriv y.1 2) (λ v. vector_or 1 (step q (costs_of rules) y.0 (v ∷ []))))) fits_here
        ∙ ap (λ j. if_valid j (λ v. vector_or 1 (step q (costs_of rules) op (v ∷ [])))) judged ∙ ap (vector_or 1) given.0)
        (ap (option_and_then (λ y. option_and_then (λ p. Some (plan.Unary y.0 p)) (plan_of q rules i.deriv y.1))) fits_here
        ∙ ap (option_and_then (λ p. Some (plan.Unary op p))) derived.plan)
        (ap (option_and_then (λ w. step q (costs_of rules) op (w ∷ []))) (fits_vector q (costs_of rules) i.tree derived.fits) ∙ given.0, derived.fits))

    unary_read : (g : Flavour) (d : Deriv) (v : Props) → judge q rules (Unary g d) (Expression (expr.Unary f args e) b) 1 ≡ Vector v
        → (g ≡ f) × ((t : PlanTree) × IsDerived q rules (Expression e b) (record { tree = t; deriv = d }) × (step q (costs_of rules) (operator_of f (values_of q b args)) (top_vector t ∷ []) ≡ Some v))
    unfolding judge unary_of
    unary_read g d v h =
        let a = fits 1 (as_unary q g (Expression (expr.Unary f args e) b)) (λ y. if_valid (judge q rules d y.1 2) (λ v. vector_or 1 (step q (costs_of rules) y.0 (v ∷ [])))) v h in
        let c = bind (λ p. Some (operator_of g (values_of q b p.0), Expression p.1 b)) (unary_of g (expr.Unary f args e)) a.0 a.1 in
        let s = chosen (same_flavour g f) (args, e) c.0 c.1 in
        let same : g ≡ f = one_flavour g f s.0 in
        let is : a.0 ≡ (operator_of f (values_of q b args), Expression e b) = sym (some_is (operator_of g (values_of q b c.0.0), Expression c.0.1 b) a.0 c.2) ∙ (λ i. (operator_of (same i) (values_of q b (sym s.1 i).0), Expression (sym s.1 i).1 b)) in
        let u = valid (judge q rules d a.0.1 2) (λ v. vector_or 1 (step q (costs_of rules) a.0.0 (v ∷ []))) v a.2 in
        let i = tree_derived q rules d (Expression e b) 2 u.0 (ap (λ y. judge q rules d y.1 2) (sym is) ∙ u.1) in
        (same, (i.0, i.1, ap (λ w. step q (costs_of rules) (operator_of f (values_of q b args)) (w ∷ [])) i.2 ∙ ap (λ y. step q (costs_of rules) y.0 (u.0 ∷ [])) (sym is) ∙ has 1 (step q (costs_of rules) a.0.0 (u.0 ∷ [])) v u.2))

    unary_at : (t : PlanTree) (d : Deriv) → IsDerived q rules (Expression (expr.Unary f args e) b) (record { tree = t; deriv = d }) → UnaryWay q rules f args e b (record { tree = t; deriv = d })
    unfolding judge leaf_of unary_of binary_of
    unary_at t (Unary g d) h =
        let x : DerivedPlan = record { tree = t; deriv = Unary g d } in
        let r = unary_read g d (top_vector t) (judge_derived q rules (Expression (expr.Unary f args e) b) x 1 h) in
        let i : DerivedPlan = record { tree = r.1.0; deriv = d } in
        let made : DerivedPlan = record { tree = tree.Unary (operator_of f (values_of q b args)) (top_vector t) i.tree; deriv = Unary f d } in
        let by : OverOne q (costs_of rules) f (operator_of f (values_of q b args)) i made = (unary_gives q (costs_of rules) f (operator_of f (values_of q b args)) i made).1 (r.1.2, refl) in
        let same : made ≡ x = same_plan q rules (Expression (expr.Unary f args e) b) made x (unary_derived made (i, r.1.1, by)) h (ap (λ k. Unary k d) (sym r.0)) in
        (i, r.1.1, by ∙ ap Some same)
    unary_at t (Glue chain d) h = absurd (unfit 1 (top_vector t) (judge_derived q rules (Expression (expr.Unary f args e) b) (record { tree = t; deriv = Glue chain d }) 1 h))
    unary_at t (Goal g split d) h = absurd (unfit 1 (top_vector t) (judge_derived q rules (Expression (expr.Unary f args e) b) (record { tree = t; deriv = Goal g split d }) 1 h))
    unary_at t (Reference star n picks d) h = absurd (unfit 1 (top_vector t) (judge_derived q rules (Expression (expr.Unary f args e) b) (record { tree = t; deriv = Reference star n picks d }) 1 h))
    unary_at t (Leaf g) h = absurd (unfit 1 (top_vector t) (judge_derived q rules (Expression (expr.Unary f args e) b) (record { tree = t; deriv = Leaf g }) 1 h))
    unary_at t (Binary g c d) h = absurd (unfit 1 (top_vector t) (judge_derived q rules (Expression (expr.Unary f args e) b) (record { tree = t; deriv = Binary g c d }) 1 h))

    pub unary_way : (x : DerivedPlan) → IsDerived q rules (Expression (expr.Unary f args e) b) x → UnaryWay q rules f args e b x
    unary_way x h = unary_at x.tree x.deriv h

    pub unary_ways : (x : DerivedPlan) → IsDerived q rules (Expression (expr.Unary f args e) b) x ↔ UnaryWay q rules f args e b x
    unary_ways x = (unary_way x, unary_derived x)

  module _ (e e2 : PlanExpr) where
    both_fit_here : as_binary q f (Expression (expr.Binary f args e e2) b) ≡ Some (operator_of f (values_of q b args), Expression e b, Expression e2 b)
    unfolding binary_of
    both_fit_here =
        ap (λ c. option_and_then (λ (p : List ValueExpr × PlanExpr × PlanExpr). Some (operator_of f (values_of q b p.0), Expression p.1 b, Expression p.2 b)) (if c then Some (args, e, e2) else None)) (its_own_flavour f)

    pub binary_derived : (x : DerivedPlan) → BinaryWay q rules f args e e2 b x → IsDerived q rules (Expression (expr.Binary f args e e2) b) x
    unfolding judge plan_of vector
    binary_derived x (i, j, left, right, made) =
        let op = operator_of f (values_of q b args) in
        let given = (binary_gives q (costs_of rules) f op i j x).0 made in
        let m : ℕ = 2 + node_count i.deriv in
        let first = judge_derived q rules (Expression e b) i 2 left in
        let second = judge_derived q rules (Expression e2 b) j m right in
        subst (IsDerived q rules (Expression (expr.Binary f args e e2) b)) (sym given.1)
        (derived_from q rules (Expression (expr.Binary f args e e2) b) (tree.Binary op (vector_of x) i.tree j.tree) (Binary f i.deriv j.deriv) 1
        (ap (λ a. fitting 1 a (λ y. if_valid (judge q rules i.deriv y.1 2) (λ v. if_valid (judge q rules j.deriv y.2 m) (λ w. vector_or 1 (step q (costs_of rules) y.0 (v ∷ w ∷ [])))))) both_fit_here
        ∙ ap (λ z. if_valid z (λ v. if_valid (judge q rules j.deriv (Expression e2 b) m) (λ w. vector_or 1 (step q (costs_of rules) op (v ∷ w ∷ []))))) first
        ∙ ap (λ z. if_valid z (λ w. vector_or 1 (step q (costs_of rules) op (vector_of i ∷ w ∷ [])))) second ∙ ap (vector_or 1) given.0)
        (ap (option_and_then (λ y. option_and_then (λ p. option_and_then (λ r. Some (plan.Binary y.0 p r)) (plan_of q rules j.deriv y.2)) (plan_of q rules i.deriv y.1))) both_fit_here
        ∙ ap (option_and_then (λ p. option_and_then (λ r. Some (plan.Binary op p r)) (plan_of q rules j.deriv (Expression e2 b)))) left.plan
        ∙ ap (option_and_then (λ r. Some (plan.Binary op (plan_under i.tree) r))) right.plan) (
          ap (option_and_then (λ u. option_and_then (λ w. step q (costs_of rules) op (u ∷ w ∷ [])) (vector q (costs_of rules) (plan_under j.tree)))) (fits_vector q (costs_of rules) i.tree left.fits)
              ∙ ap (option_and_then (λ w. step q (costs_of rules) op (vector_of i ∷ w ∷ []))) (fits_vector q (costs_of rules) j.tree right.fits) ∙ given.0,
          left.fits,
          right.fits,
        ))

    -- what is read of a node with this operator: both inputs, and the step over their vectors
    record Reads (g : Flavour) (c d : Deriv) (v : Props) : Type 0 where
      same : g ≡ f
      left : PlanTree
      right : PlanTree
      of_left : IsDerived q rules (Expression e b) (record { tree = left; deriv = c })
      of_right : IsDerived q rules (Expression e2 b) (record { tree = right; deriv = d })
      steps : step q (costs_of rules) (operator_of f (values_of q b args)) (top_vector left ∷ top_vector right ∷ []) ≡ Some v

    binary_read : (g : Flavour) (c d : Deriv) (v : Props) → judge q rules (Binary g c d) (Expression (expr.Binary f args e e2) b) 1 ≡ Vector v → Reads g c d v
    unfolding judge binary_of
    binary_read g c d v h =
        let m : ℕ = 2 + node_count c in
        let a = fits 1 (as_binary q g (Expression (expr.Binary f args e e2) b))
        (λ y. if_valid (judge q rules c y.1 2) (λ v. if_valid (judge q rules d y.2 m) (λ w. vector_or 1 (step q (costs_of rules) y.0 (v ∷ w ∷ []))))) v h in
        let k = bind (λ p. Some (operator_of g (values_of q b p.0), Expression p.1 b, Expression p.2 b)) (binary_of g (expr.Binary f args e e2)) a.0 a.1 in
        let s = chosen (same_flavour g f) (args, e, e2) k.0 k.1 in
        let same : g ≡ f = one_flavour g f s.0 in
        let op : Op = operator_of f (values_of q b args) in
        let is : a.0 ≡ (op, Expression e b, Expression e2 b) =
        sym (some_is (operator_of g (values_of q b k.0.0), Expression k.0.1 b, Expression k.0.2 b) a.0 k.2)
        ∙ (λ i. (operator_of (same i) (values_of q b (sym s.1 i).0), Expression (sym s.1 i).1 b, Expression (sym s.1 i).2 b)) in
        let u = valid (judge q rules c a.0.1 2) (λ v. if_valid (judge q rules d a.0.2 m) (λ w. vector_or 1 (step q (costs_of rules) a.0.0 (v ∷ w ∷ [])))) v a.2 in
        let w = valid (judge q rules d a.0.2 m) (λ w. vector_or 1 (step q (costs_of rules) a.0.0 (u.0 ∷ w ∷ []))) v u.2 in
        let i = tree_derived q rules c (Expression e b) 2 u.0 (ap (λ y. judge q rules c y.1 2) (sym is) ∙ u.1) in
        let j = tree_derived q rules d (Expression e2 b) m w.0 (ap (λ y. judge q rules d y.2 m) (sym is) ∙ w.1) in
        record {
          same = same;
          left = i.0;
          right = j.0;
          of_left = i.1;
          of_right = j.1;
          steps = (λ n. step q (costs_of rules) op (i.2 n ∷ j.2 n ∷ [])) ∙ ap (λ y. step q (costs_of rules) y.0 (u.0 ∷ w.0 ∷ [])) (sym is) ∙ has 1 (step q (costs_of rules) a.0.0 (u.0 ∷ w.0 ∷ [])) v w.2;
        }

    binary_at : (t : PlanTree) (d : Deriv) → IsDerived q rules (Expression (expr.Binary f args e e2) b) (record { tree = t; deriv = d }) → BinaryWay q rules f args e e2 b (record { tree = t; deriv = d })
    unfolding judge leaf_of unary_of binary_of
    binary_at t (Binary g c d) h =
        let x : DerivedPlan = record { tree = t; deriv = Binary g c d } in
        let r = binary_read g c d (top_vector t) (judge_derived q rules (Expression (expr.Binary f args e e2) b) x 1 h) in
        let op : Op = operator_of f (values_of q b args) in
        let i : DerivedPlan = record { tree = r.left; deriv = c } in
        let j : DerivedPlan = record { tree = r.right; deriv = d } in
        let made : DerivedPlan = record { tree = tree.Binary op (top_vector t) i.tree j.tree; deriv = Binary f c d } in
        let by : OverTwo q (costs_of rules) f op i j made = (binary_gives q (costs_of rules) f op i j made).1 (r.steps, refl) in
        let here : made ≡ x = same_plan q rules (Expression (expr.Binary f args e e2) b) made x (binary_derived made (i, j, r.of_left, r.of_right, by)) h (ap (λ k. Binary k c d) (sym r.same)) in
        (i, j, r.of_left, r.of_right, by ∙ ap Some here)
    binary_at t (Glue chain d) h = absurd (unfit 1 (top_vector t) (judge_derived q rules (Expression (expr.Binary f args e e2) b) (record { tree = t; deriv = Glue chain d }) 1 h))
    binary_at t (Goal g split d) h = absurd (unfit 1 (top_vector t) (judge_derived q rules (Expression (expr.Binary f args e e2) b) (record { tree = t; deriv = Goal g split d }) 1 h))
    binary_at t (Reference star n picks d) h = absurd (unfit 1 (top_vector t) (judge_derived q rules (Expression (expr.Binary f args e e2) b) (record { tree = t; deriv = Reference star n picks d }) 1 h))
    binary_at t (Leaf g) h = absurd (unfit 1 (top_vector t) (judge_derived q rules (Expression (expr.Binary f args e e2) b) (record { tree = t; deriv = Leaf g }) 1 h))
    binary_at t (Unary g d) h = absurd (unfit 1 (top_vector t) (judge_derived q rules (Expression (expr.Binary f args e e2) b) (record { tree = t; deriv = Unary g d }) 1 h))

    pub binary_way : (x : DerivedPlan) → IsDerived q rules (Expression (expr.Binary f args e e2) b) x → BinaryWay q rules f args e e2 b x
    binary_way x h = binary_at x.tree x.deriv h

    pub binary_ways : (x : DerivedPlan) → IsDerived q rules (Expression (expr.Binary f args e e2) b) x ↔ BinaryWay q rules f args e e2 b x
    binary_ways x = (binary_way x, binary_derived x)
