-- What is derived where a STAR is called, and for a goal.
use Rattle.std.proofs.Common.{◌≡◌, ℕ, Bool, true, ◌&&◌, List, Option, Some, None, refl, ap, sym, ◌∙◌, subst, if◌then◌else◌, nat_eq}
use Rattle.std.specs.Prelude.{option_and_then, ◌↔◌}
use Rattle.std.proofs.lemmas.Bool.{and_parts, eqb-true, eq-eqb}
use Rattle.star_model.specs.Vectors.{same_numbers}
use Rattle.star_model.proofs.Laws.{same_are, same_self}
use Rattle.star_model.specs.Goals.{is_target}
use Rattle.star_model.specs.Expected.{Expected, ForGoal, Call, Expression, goal_body, reference_body, body_of, may_split, root_call, values_of, leaf_of, unary_of, binary_of}
use Rattle.star_model.specs.Derivations.{plan_of, is_valid}
use Rattle.star_model.specs.Judging.{vector_or, if_valid, only_if, fitting, judge}
use Rattle.star_model.specs.DerivCases.{Glue, Goal, Reference, Unary, Binary}
use Rattle.star_model.specs.declared.derivations.Deriv.TheVariants.{Leaf}
use Rattle.star_model.specs.declared.rules.PlanExpr.TheVariants as plain
use Rattle.star_model.specs.declared.query.Query.{Query}
use Rattle.star_model.specs.declared.plans.Goal as goal
use Rattle.star_model.specs.declared.rules.ValueExpr.{ValueExpr}
use Rattle.star_model.specs.declared.rules.RuleFile.{RuleFile}
use Rattle.star_model.specs.declared.values.RuleValue.{RuleValue}
use Rattle.star_model.specs.declared.derivations.Deriv.{Deriv}
use Rattle.lolepop.specs.PlanTrees.{PlanTree, top_vector}
use Rattle.lolepop.specs.Derived.{DerivedPlan, vector_of, under_goal, under_reference}
use Rattle.exchange.specs.Places.{IsDerived, CallWay, GoalWay}
use Rattle.exchange.proofs.Reading.{fits, valid, has, chosen, chosen_of, passes_test, unfit}
use Rattle.exchange.proofs.Derived.{judge_derived, tree_derived, derived_from, same_plan}

module _ (q : Query) (rules : RuleFile) where
  -- ---- calls

  module _ (star : List ℕ) (b : List RuleValue) where
    named_here : (n : ℕ) (picks : List ℕ) (y : Expected) → body_of q rules star b n picks ≡ Some y → reference_body q rules star n picks (Call star b) ≡ Some y
    named_here n picks y is = ap (λ (c : Bool). if c then body_of q rules star b n picks else None) (same_self star) ∙ is

    pub call_derived : (x : DerivedPlan) → CallWay q rules star b x → IsDerived q rules (Call star b) x
    unfolding judge plan_of
    call_derived x (n, picks, (y, i, body, derived, is)) =
        subst (IsDerived q rules (Call star b)) (sym is)
        (derived_from q rules (Call star b) i.tree (Reference star n picks i.deriv) 1
        (ap (λ a. fitting 1 a (λ y. judge q rules i.deriv y 2)) (named_here n picks y body) ∙ judge_derived q rules y i 2 derived)
        (ap (option_and_then (plan_of q rules i.deriv)) (named_here n picks y body) ∙ derived.plan) derived.fits)

    call_at : (t : PlanTree) (d : Deriv) → IsDerived q rules (Call star b) (record { tree = t; deriv = d }) → CallWay q rules star b (record { tree = t; deriv = d })
    unfolding judge
    call_at t (Reference name n picks d) h =
        let z : DerivedPlan = record { tree = t; deriv = Reference name n picks d } in
        let a = fits 1 (reference_body q rules name n picks (Call star b)) (λ y. judge q rules d y 2) (top_vector t) (judge_derived q rules (Call star b) z 1 h) in
        let k = chosen_of (same_numbers name star) (body_of q rules name b n picks) a.0 a.1 in
        let body : body_of q rules star b n picks ≡ Some a.0 = ap (λ s. body_of q rules s b n picks) (sym (same_are name star k.0)) ∙ k.1 in
        let i = tree_derived q rules d a.0 2 (top_vector t) a.2 in
        let e : DerivedPlan = record { tree = i.0; deriv = d } in
        let way : CallWay q rules star b (under_reference star n picks e) = (n, picks, (a.0, e, body, i.1, refl)) in
        let same : under_reference star n picks e ≡ z =
        same_plan q rules (Call star b) (under_reference star n picks e) z (call_derived (under_reference star n picks e) way) h (ap (λ s. Reference s n picks d) (sym (same_are name star k.0))) in
        (n, picks, (a.0, e, body, i.1, sym same))
    call_at t (Glue chain d) h = absurd (unfit 1 (top_vector t) (judge_derived q rules (Call star b) (record { tree = t; deriv = Glue chain d }) 1 h))
    call_at t (Goal g split d) h = absurd (unfit 1 (top_vector t) (judge_derived q rules (Call star b) (record { tree = t; deriv = Goal g split d }) 1 h))
    call_at t (Leaf g) h = absurd (unfit 1 (top_vector t) (judge_derived q rules (Call star b) (record { tree = t; deriv = Leaf g }) 1 h))
    call_at t (Unary g d) h = absurd (unfit 1 (top_vector t) (judge_derived q rules (Call star b) (record { tree = t; deriv = Unary g d }) 1 h))
    call_at t (Binary g c d) h = absurd (unfit 1 (top_vector t) (judge_derived q rules (Call star b) (record { tree = t; deriv = Binary g c d }) 1 h))

    pub call_way : (x : DerivedPlan) → IsDerived q rules (Call star b) x → CallWay q rules star b x
    call_way x h = call_at x.tree x.deriv h

    pub call_ways : (x : DerivedPlan) → IsDerived q rules (Call star b) x ↔ CallWay q rules star b x
    call_ways x = (call_way x, call_derived x)

  -- a reference is a call with the values of its arguments
  reference_at : (star : List ℕ) (args : List ValueExpr) (b : List RuleValue) (t : PlanTree) (d : Deriv) → IsDerived q rules (Call star (values_of q b args)) (record { tree = t; deriv = d })
      → IsDerived q rules (Expression (plain.Reference star args) b) (record { tree = t; deriv = d })
  unfolding is_valid plan_of judge
  reference_at star args b t (Reference name n picks d) h = record { valid = h.valid; plan = h.plan; fits = h.fits }
  reference_at star args b t (Glue chain d) h = absurd (unfit 1 (top_vector t) (judge_derived q rules (Call star (values_of q b args)) (record { tree = t; deriv = Glue chain d }) 1 h))
  reference_at star args b t (Goal g split d) h = absurd (unfit 1 (top_vector t) (judge_derived q rules (Call star (values_of q b args)) (record { tree = t; deriv = Goal g split d }) 1 h))
  reference_at star args b t (Leaf g) h = absurd (unfit 1 (top_vector t) (judge_derived q rules (Call star (values_of q b args)) (record { tree = t; deriv = Leaf g }) 1 h))
  reference_at star args b t (Unary g d) h = absurd (unfit 1 (top_vector t) (judge_derived q rules (Call star (values_of q b args)) (record { tree = t; deriv = Unary g d }) 1 h))
  reference_at star args b t (Binary g c d) h = absurd (unfit 1 (top_vector t) (judge_derived q rules (Call star (values_of q b args)) (record { tree = t; deriv = Binary g c d }) 1 h))

  call_of : (star : List ℕ) (args : List ValueExpr) (b : List RuleValue) (t : PlanTree) (d : Deriv) → IsDerived q rules (Expression (plain.Reference star args) b) (record { tree = t; deriv = d })
      → IsDerived q rules (Call star (values_of q b args)) (record { tree = t; deriv = d })
  unfolding is_valid plan_of judge leaf_of unary_of binary_of
  call_of star args b t (Reference name n picks d) h = record { valid = h.valid; plan = h.plan; fits = h.fits }
  call_of star args b t (Glue chain d) h = absurd (unfit 1 (top_vector t) (judge_derived q rules (Expression (plain.Reference star args) b) (record { tree = t; deriv = Glue chain d }) 1 h))
  call_of star args b t (Goal g split d) h = absurd (unfit 1 (top_vector t) (judge_derived q rules (Expression (plain.Reference star args) b) (record { tree = t; deriv = Goal g split d }) 1 h))
  call_of star args b t (Leaf g) h = absurd (unfit 1 (top_vector t) (judge_derived q rules (Expression (plain.Reference star args) b) (record { tree = t; deriv = Leaf g }) 1 h))
  call_of star args b t (Unary g d) h = absurd (unfit 1 (top_vector t) (judge_derived q rules (Expression (plain.Reference star args) b) (record { tree = t; deriv = Unary g d }) 1 h))
  call_of star args b t (Binary g c d) h = absurd (unfit 1 (top_vector t) (judge_derived q rules (Expression (plain.Reference star args) b) (record { tree = t; deriv = Binary g c d }) 1 h))

  pub reference_derived : (star : List ℕ) (args : List ValueExpr) (b : List RuleValue) (x : DerivedPlan) → IsDerived q rules (Call star (values_of q b args)) x
      → IsDerived q rules (Expression (plain.Reference star args) b) x
  reference_derived star args b x h = reference_at star args b x.tree x.deriv h

  pub reference_way : (star : List ℕ) (args : List ValueExpr) (b : List RuleValue) (x : DerivedPlan) → IsDerived q rules (Expression (plain.Reference star args) b) x
      → IsDerived q rules (Call star (values_of q b args)) x
  reference_way star args b x h = call_of star args b x.tree x.deriv h

  pub reference_ways : (star : List ℕ) (args : List ValueExpr) (b : List RuleValue) (x : DerivedPlan)
      → IsDerived q rules (Expression (plain.Reference star args) b) x ↔ IsDerived q rules (Call star (values_of q b args)) x
  reference_ways star args b x = (reference_way star args b x, reference_derived star args b x)

  -- ---- goals

  module _ (s j : ℕ) where
    splits_here : (split : Option (ℕ × ℕ)) → may_split s split ≡ true → goal_body (record { tables = s; pushed = j }) split (ForGoal s j) ≡ Some (root_call s j split)
    splits_here split may = (λ n. if eq-eqb s s refl n && eq-eqb j j refl n && may n then Some (root_call s j split) else None)

    pub goal_derived : (x : DerivedPlan) → GoalWay q rules s j x → IsDerived q rules (ForGoal s j) x
    unfolding judge plan_of
    goal_derived x (split, (i, may, derived, (target, is))) =
        let g : goal.Goal = record { tables = s; pushed = j } in
        subst (IsDerived q rules (ForGoal s j)) (sym is)
        (derived_from q rules (ForGoal s j) i.tree (Goal g split i.deriv) 1
        (ap (λ a. fitting 1 a (λ y. if_valid (judge q rules i.deriv y 2) (λ v. vector_or 1 (only_if (is_target q s j) v)))) (splits_here split may)
        ∙ ap (λ k. if_valid k (λ v. vector_or 1 (only_if (is_target q s j) v))) (judge_derived q rules (root_call s j split) i 2 derived)
        ∙ ap (λ (t : Bool). vector_or 1 (if t then Some (vector_of i) else None)) target)
        (ap (option_and_then (plan_of q rules i.deriv)) (splits_here split may) ∙ derived.plan) derived.fits)

    goal_at : (t : PlanTree) (d : Deriv) → IsDerived q rules (ForGoal s j) (record { tree = t; deriv = d }) → GoalWay q rules s j (record { tree = t; deriv = d })
    unfolding judge
    goal_at t (Goal g split d) h =
        let z : DerivedPlan = record { tree = t; deriv = Goal g split d } in
        let a = fits 1 (goal_body g split (ForGoal s j)) (λ y. if_valid (judge q rules d y 2) (λ v. vector_or 1 (only_if (is_target q g.tables g.pushed) v))) (top_vector t) (judge_derived q rules (ForGoal s j) z 1 h) in
        let k = chosen (nat_eq g.tables s && nat_eq g.pushed j && may_split s split) (root_call s j split) a.0 a.1 in
        let l = and_parts (nat_eq g.tables s && nat_eq g.pushed j) (may_split s split) k.0 in
        let m = and_parts (nat_eq g.tables s) (nat_eq g.pushed j) l.0 in
        let tables : g.tables ≡ s = eqb-true g.tables s m.0 in
        let pushed : g.pushed ≡ j = eqb-true g.pushed j m.1 in
        let u = valid (judge q rules d a.0 2) (λ v. vector_or 1 (only_if (is_target q g.tables g.pushed) v)) (top_vector t) a.2 in
        let p = passes_test (is_target q g.tables g.pushed) u.0 (top_vector t) (has 1 (only_if (is_target q g.tables g.pushed) u.0) (top_vector t) u.2) in
        let i = tree_derived q rules d (root_call s j split) 2 u.0 (ap (λ y. judge q rules d y 2) k.1 ∙ u.1) in
        let e : DerivedPlan = record { tree = i.0; deriv = d } in
        let target : is_target q s j (vector_of e) ≡ true = (λ n. is_target q (sym tables n) (sym pushed n) (i.2 n)) ∙ p.0 in
        let made : DerivedPlan = under_goal (record { tables = s; pushed = j }) split e in
        let same : made ≡ z =
        same_plan q rules (ForGoal s j) made z (goal_derived made (split, (e, l.1, i.1, (target, refl)))) h (λ n. Goal (record { tables = sym tables n; pushed = sym pushed n }) split d) in
        (split, (e, l.1, i.1, (target, sym same)))
    goal_at t (Glue chain d) h = absurd (unfit 1 (top_vector t) (judge_derived q rules (ForGoal s j) (record { tree = t; deriv = Glue chain d }) 1 h))
    goal_at t (Reference star n picks d) h = absurd (unfit 1 (top_vector t) (judge_derived q rules (ForGoal s j) (record { tree = t; deriv = Reference star n picks d }) 1 h))
    goal_at t (Leaf g) h = absurd (unfit 1 (top_vector t) (judge_derived q rules (ForGoal s j) (record { tree = t; deriv = Leaf g }) 1 h))
    goal_at t (Unary g d) h = absurd (unfit 1 (top_vector t) (judge_derived q rules (ForGoal s j) (record { tree = t; deriv = Unary g d }) 1 h))
    goal_at t (Binary g c d) h = absurd (unfit 1 (top_vector t) (judge_derived q rules (ForGoal s j) (record { tree = t; deriv = Binary g c d }) 1 h))

    pub goal_way : (x : DerivedPlan) → IsDerived q rules (ForGoal s j) x → GoalWay q rules s j x
    goal_way x h = goal_at x.tree x.deriv h

    pub goal_ways : (x : DerivedPlan) → IsDerived q rules (ForGoal s j) x ↔ GoalWay q rules s j x
    goal_ways x = (goal_way x, goal_derived x)
