-- What a set has that is best for a goal: exactly the vectors of the goal's frontier, each once; and what it has that is best for the query.
use Rattle.std.proofs.Common.{◌≡◌, ℕ, ◌≤◌, Bool, true, List, [], refl, ap, sym, ◌∙◌, subst, arith, get_or}
use Rattle.std.specs.Prelude.{Contains, ◌↔◌, AllPairs}
use Rattle.std.proofs.lemmas.Bool.{false≢true}
use Rattle.star_model.specs.Expected.{Expected, ForQuery, ForGoal}
use Rattle.star_model.specs.Derivations.{HasVector, IsRoot, IsLeast, OnFrontier}
use Rattle.star_model.specs.Vectors.{is_better}
use Rattle.star_model.specs.declared.plans.Props.{Props}
use Rattle.star_model.specs.declared.query.Query.{Query}
use Rattle.star_model.specs.declared.rules.RuleFile.{RuleFile}
use Rattle.star_model.specs.declared.derivations.Deriv.{Deriv}
use Rattle.star_model.proofs.Laws.{better_reflexive, better_costs, judges_vector, judges_root}
use Rattle.dominance_prune.specs.GatheringCases.{member_above, IsFrontier-has, IsFrontier-best, IsFrontier-none}
use Rattle.property_vector.proofs.Laws.{equal_by_better}
use Rattle.lolepop.specs.Derived.{DerivedPlan, vector_of, is_better_plan}
use Rattle.exchange.specs.Places.{IsDerived, IsBestOf}
use Rattle.exchange.proofs.Derived.{has_vector, has_card, tree_derived}
use Rattle.exchange.proofs.OperatorExchange.{better_plan_transitive}

module _ (q : Query) (rules : RuleFile) where
  -- a derivation with a vector, as a derived plan
  pub plan_of_vector : (x : Expected) (d : Deriv) (v : Props) → HasVector q rules d x v → (e : DerivedPlan) × IsDerived q rules x e × (vector_of e ≡ v) × (e.deriv ≡ d)
  plan_of_vector x d v h = let t = tree_derived q rules d x 1 v ((judges_vector q rules d x 1 v).1 h) in (record { tree = t.0; deriv = d }, t.1, t.2, refl)

  module _ (x : Expected) (plans : List DerivedPlan) (best : IsBestOf q rules x plans) where
    among : (m : DerivedPlan) → Contains plans m → IsDerived q rules x m
    among m has = IsFrontier-has is_better_plan (IsDerived q rules x) plans best m has

    -- a member has a vector of the place, and no other is better
    pub member_unbeaten : (m : DerivedPlan) → Contains plans m → (d : Deriv) (w : Props) → HasVector q rules d x w → is_better w (vector_of m) ≡ true → w ≡ vector_of m
    member_unbeaten m has d w h over =
        let e = plan_of_vector x d w h in
        let up : is_better_plan e.0 m ≡ true = ap (λ v. is_better v (vector_of m)) e.2 ∙ over in
        let down = IsFrontier-best is_better_plan better_plan_transitive (IsDerived q rules x) plans best e.0 m e.1 has up in
        sym e.2 ∙ equal_by_better q (vector_of e.0) (vector_of m) (has_card q rules x e.0 e.1) (has_card q rules x m (among m has)) up down

    -- a vector of the place that no other is better than is a member's
    pub unbeaten_member : (d : Deriv) (v : Props) → HasVector q rules d x v → ((c : Deriv) (w : Props) → HasVector q rules c x w → is_better w v ≡ true → w ≡ v)
        → (m : DerivedPlan) × Contains plans m × (vector_of m ≡ v)
    unbeaten_member d v h unbeaten =
        let e = plan_of_vector x d v h in
        let m = member_above is_better_plan plans e.0 (best.gathered.covers e.0 e.1) in
        (m.0, m.1, unbeaten m.0.deriv (vector_of m.0) (has_vector q rules x m.0 (among m.0 m.1)) (ap (is_better (vector_of m.0)) (sym e.2) ∙ m.2))

    -- each vector once
    pub vectors_once : AllPairs (λ e f. vector_of e ≡ vector_of f → ⊥) plans
    vectors_once i j e less within same = false≢true (sym (best.apart i j e less within).0 ∙ (let P : Props → Bool = λ v. is_better (vector_of (get_or plans i e)) v in ap P (sym same) ∙ better_reflexive (vector_of (get_or plans i e))))

    pub none_there : plans ≡ [] → (d : Deriv) (v : Props) → HasVector q rules d x v → ⊥
    none_there empty d v h =
        let e = plan_of_vector x d v h in
        IsFrontier-none is_better_plan (IsDerived q rules x) (subst (IsBestOf q rules x) empty best) e.0 e.1

  -- the vectors of the members are those of the goal's frontier
  pub has_frontier : (s j : ℕ) (plans : List DerivedPlan) → IsBestOf q rules (ForGoal s j) plans → (v : Props) → ((m : DerivedPlan) × Contains plans m × (vector_of m ≡ v)) ↔ OnFrontier q rules s j v
  has_frontier s j plans best v = (
    (λ m.
        let there = IsFrontier-has is_better_plan (IsDerived q rules (ForGoal s j)) plans best m.0 m.1 in
        subst (OnFrontier q rules s j) m.2
        (record {
          of_goal = (m.0.deriv, has_vector q rules (ForGoal s j) m.0 there);
          unbeaten = λ w of over. member_unbeaten (ForGoal s j) plans best m.0 m.1 of.0 w of.1 over;
        })),
    (λ on. unbeaten_member (ForGoal s j) plans best on.of_goal.0 v on.of_goal.1 (λ c w h over. on.unbeaten w (c, h) over)),
  )

  -- ---- the query's plans

  -- a root derivation is one that is valid for the query
  pub root_vector : (d : Deriv) (v : Props) → IsRoot q rules d v ↔ HasVector q rules d ForQuery v
  root_vector d v = (
    (λ h. (judges_vector q rules d ForQuery 1 v).0 ((judges_root q rules d v).1 h)),
    (λ h. (judges_root q rules d v).0 ((judges_vector q rules d ForQuery 1 v).1 h)),
  )

  -- a member that costs no more than any other is a plan of least cost
  pub cheapest_is_least : (plans : List DerivedPlan) → IsBestOf q rules ForQuery plans → (m : DerivedPlan) → Contains plans m
      → ((e : DerivedPlan) → Contains plans e → (vector_of m).cost ≤ (vector_of e).cost) → IsLeast q rules m.deriv (vector_of m)
  cheapest_is_least plans best m has least = record {
    root = (root_vector m.deriv (vector_of m)).1 (has_vector q rules ForQuery m (IsFrontier-has is_better_plan (IsDerived q rules ForQuery) plans best m has));
    least = λ other w h.
        let e = plan_of_vector ForQuery other w ((root_vector other w).0 h) in
        let k = member_above is_better_plan plans e.0 (best.gathered.covers e.0 e.1) in
        let first = least k.0 k.1 in
        let then_ = better_costs (vector_of k.0) (vector_of e.0) k.2 in
        let same : (vector_of e.0).cost ≡ w.cost = ap (λ v. v.cost) e.2 in
        omega (arith, first, then_, same);
  }

  pub no_root : (plans : List DerivedPlan) → IsBestOf q rules ForQuery plans → plans ≡ [] → (d : Deriv) (v : Props) → IsRoot q rules d v → ⊥
  no_root plans best empty d v h = none_there ForQuery plans best empty d v ((root_vector d v).0 h)
