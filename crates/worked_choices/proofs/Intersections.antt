-- No derivation costs less than that of the rows that both indexes give.
use Rattle.std.proofs.Common.{◌≡◌, ℕ, ◌-◌, ◌≤◌, zero, suc, Bool, true, false, ◌&&◌, ◌||◌, not, nat_eq, List, [], ◌∷◌, ◌++◌, Option, Some, None, codes, refl, ap, sym, subst, ◌∙◌, if◌then◌else◌, ◌⊎◌, inl, inr, arith}
use Rattle.std.specs.Prelude.{slice_get, option_and_then}
use Rattle.std.specs.List.{list_any}
use Rattle.std.proofs.lemmas.Bool.{false≢true, and_parts, or_cases, eqb-true}
use Rattle.star_model.specs.Costs.{costs_of}
use Rattle.star_model.specs.Derivations.{HasVector, IsRoot, IsLeast, IsOfGoal}
use Rattle.star_model.specs.Expected.{Expected, ForGoal, Call, Expression, root_requirement, query_goal, root_call, body_of, bound, meets, operator_of, values_of}
use Rattle.star_model.specs.Judging.{Vector}
use Rattle.star_model.specs.Meaning.{meaning, numbers_of, member_at, plain}
use Rattle.star_model.specs.Operators.{step}
use Rattle.star_model.specs.Plans.{vector, chain_over}
use Rattle.star_model.specs.Predicates.{eligible}
use Rattle.star_model.specs.Sets.{set_of, has, members, union, places}
use Rattle.star_model.specs.Stars.{alternative_of}
use Rattle.star_model.specs.PlanExprCases as expr
use Rattle.star_model.specs.ValueCases as v
use Rattle.star_model.specs.declared.derivations.Deriv.{Deriv}
use Rattle.star_model.specs.declared.plans.GlueOp.{GlueOp}
use Rattle.star_model.specs.declared.plans.Props.{Props}
use Rattle.star_model.specs.declared.rules.Alternative.{Alternative}
use Rattle.star_model.specs.declared.rules.Flavour.{Flavour}
use Rattle.star_model.specs.declared.rules.Flavour.TheVariants as flavour
use Rattle.star_model.specs.declared.rules.ForAll.{ForAll}
use Rattle.star_model.specs.declared.rules.PlanExpr.{PlanExpr}
use Rattle.star_model.specs.declared.rules.PlanExpr.TheVariants as made
use Rattle.star_model.specs.declared.rules.ValueExpr.{ValueExpr}
use Rattle.star_model.specs.declared.rules.ValueExpr.TheVariants as variable
use Rattle.star_model.specs.declared.values.RuleValue.{RuleValue}
use Rattle.star_model.specs.declared.values.RuleValue.TheVariants as is
use Rattle.star_model.proofs.Laws.{judges_root}
use Rattle.lolepop.specs.Derived.{DerivedPlan, vector_of}
use Rattle.exchange.specs.Places.{IsDerived}
use Rattle.exchange.proofs.Laws.{leaf_ways, unary_ways, binary_ways, call_ways, reference_ways, goal_ways, plan_of_vector}
use Rattle.worked_choices.specs.Indexing.{query, rules, by_one_index}
use Rattle.worked_choices.specs.Claims.{HasLeastCost}
use Rattle.worked_choices.proofs.Choices.{no_chain}
use Rattle.worked_choices.proofs.Derived.{made_of, one_vector, bind, unchosen, at_three, no_split}
use Rattle.worked_choices.proofs.Indexes.{stream, preds, x, y, by, rest_by, access, heap, one, both, on_indexes, reading_all, reading_one, reading_both, arguments, under, under_both, two, first_twice, second_twice, whole, first, second, shared, shared_turned, by_first, by_second, by_both, by_both_turned, reads_whole, reads_first, reads_second, reads_first_of_both, reads_second_of_both, reads_second_turned, reads_first_turned, shares, shares_turned, gets_first, gets_second, gets_both, gets_both_turned, both_judged, one_judged}
use Rattle.worked_plans.specs.Derivations as tree

abbrev Costly : Props → Type 0
Costly u = 385 ≤ u.cost

-- ---- operators over plans that have one vector

leaf_is : (f : Flavour) (args : List ValueExpr) (b : List RuleValue) (w : Props) → step query (costs_of rules) (operator_of f (values_of query b args)) [] ≡ Some w
    → (e : DerivedPlan) → IsDerived query rules (Expression (made.Leaf f args) b) e → vector_of e ≡ w
leaf_is f args b w steps e h =
    let o = step query (costs_of rules) (operator_of f (values_of query b args)) [] in
    let m = made_of _ o e ((leaf_ways query rules f args b e).0 h) in
    ap vector_of (sym m.2) ∙ one_vector m.0 w o m.1 steps

unary_is : (f : Flavour) (args : List ValueExpr) (b : List RuleValue) (below : PlanExpr) (u w : Props) → ((i : DerivedPlan) → IsDerived query rules (Expression below b) i → vector_of i ≡ u)
    → step query (costs_of rules) (operator_of f (values_of query b args)) (u ∷ []) ≡ Some w
    → (e : DerivedPlan) → IsDerived query rules (Expression (expr.Unary f args below) b) e → vector_of e ≡ w
unary_is f args b below u w all steps e h =
    let way = (unary_ways query rules f args b below e).0 h in
    let o = step query (costs_of rules) (operator_of f (values_of query b args)) (vector_of way.0 ∷ []) in
    let m = made_of _ o e way.2 in
    ap vector_of (sym m.2)
    ∙ one_vector m.0 w o m.1 (ap (λ (t : Props). step query (costs_of rules) (operator_of f (values_of query b args)) (t ∷ [])) (all way.0 way.1) ∙ steps)

binary_is : (f : Flavour) (args : List ValueExpr) (b : List RuleValue) (left right : PlanExpr) (t u w : Props)
    → ((i : DerivedPlan) → IsDerived query rules (Expression left b) i → vector_of i ≡ t)
    → ((i : DerivedPlan) → IsDerived query rules (Expression right b) i → vector_of i ≡ u)
    → step query (costs_of rules) (operator_of f (values_of query b args)) (t ∷ u ∷ []) ≡ Some w
    → (e : DerivedPlan) → IsDerived query rules (Expression (expr.Binary f args left right) b) e → vector_of e ≡ w
binary_is f args b left right t u w lefts rights steps e h =
    let way = (binary_ways query rules f args b left right e).0 h in
    let o = step query (costs_of rules) (operator_of f (values_of query b args)) (vector_of way.0 ∷ vector_of way.1 ∷ []) in
    let m = made_of _ o e way.4 in
    let over : o ≡ step query (costs_of rules) (operator_of f (values_of query b args)) (t ∷ u ∷ []) =
    (λ k. step query (costs_of rules) (operator_of f (values_of query b args)) (lefts way.0 way.2 k ∷ rights way.1 way.3 k ∷ [])) in
    ap vector_of (sym m.2) ∙ one_vector m.0 w o m.1 (over ∙ steps)

-- ---- the bodies, under each binding

IsBody : Expected → Type 0
IsBody z =
    (Expression heap arguments ≡ z)
    ⊎ (Expression one (under 0) ≡ z)
    ⊎ (Expression one (under 1) ≡ z)
    ⊎ (Expression both (under_both 0 1) ≡ z)
    ⊎ (Expression both (under_both 1 0) ≡ z)

at_body : (z : Expected) (i : DerivedPlan) → IsBody z → IsDerived query rules z i → Costly (vector_of i)
unfolding IsBody
at_body z i body h = go body
  where
    has_vector : (e : PlanExpr) (b : List RuleValue) (u : Props) → Costly u → ((j : DerivedPlan) → IsDerived query rules (Expression e b) j → vector_of j ≡ u)
        → Expression e b ≡ z → Costly (vector_of i)
    has_vector e b u high all is = subst Costly (sym (all i (subst (λ (w : Expected). IsDerived query rules w i) (sym is) h))) high

    go : IsBody z → Costly (vector_of i)
    go (inl is) = has_vector heap arguments whole (omega arith) (leaf_is flavour.AccessHeap (stream ∷ preds ∷ []) arguments whole reads_whole) is
    go (inr (inl is)) =
        has_vector
        one
        (under 0)
        by_first
        (omega arith)
        (unary_is flavour.Get (stream ∷ rest_by (by x) ∷ []) (under 0) (access x) first by_first (leaf_is flavour.AccessIndex (stream ∷ x ∷ by x ∷ []) (under 0) first reads_first) gets_first)
        is
    go (inr (inr (inl is))) =
        has_vector
        one
        (under 1)
        by_second
        (omega arith)
        (unary_is flavour.Get (stream ∷ rest_by (by x) ∷ []) (under 1) (access x) second by_second (leaf_is flavour.AccessIndex (stream ∷ x ∷ by x ∷ []) (under 1) second reads_second) gets_second)
        is
    go (inr (inr (inr (inl is)))) =
        has_vector
        both
        (under_both 0 1)
        by_both
        (omega arith)
        (unary_is
        flavour.Get
        (stream ∷ rest_by (v.Union (by x) (by y)) ∷ [])
        (under_both 0 1)
        (expr.Binary flavour.Intersect [] (access x) (access y))
        shared
        by_both
        (binary_is
        flavour.Intersect
        []
        (under_both 0 1)
        (access x)
        (access y)
        first
        second
        shared
        (leaf_is flavour.AccessIndex (stream ∷ x ∷ by x ∷ []) (under_both 0 1) first reads_first_of_both)
        (leaf_is flavour.AccessIndex (stream ∷ y ∷ by y ∷ []) (under_both 0 1) second reads_second_of_both)
        shares)
        gets_both)
        is
    go (inr (inr (inr (inr is)))) =
        has_vector
        both
        (under_both 1 0)
        by_both_turned
        (omega arith)
        (unary_is
        flavour.Get
        (stream ∷ rest_by (v.Union (by x) (by y)) ∷ [])
        (under_both 1 0)
        (expr.Binary flavour.Intersect [] (access x) (access y))
        shared_turned
        by_both_turned
        (binary_is
        flavour.Intersect
        []
        (under_both 1 0)
        (access x)
        (access y)
        second
        first
        shared_turned
        (leaf_is flavour.AccessIndex (stream ∷ x ∷ by x ∷ []) (under_both 1 0) second reads_second_turned)
        (leaf_is flavour.AccessIndex (stream ∷ y ∷ by y ∷ []) (under_both 1 0) first reads_first_turned)
        shares_turned)
        gets_both_turned)
        is

-- ---- the bindings of the for-all names

all_bound : (rest : List ℕ) (b c : List RuleValue) → bound query [] rest b ≡ Some c → b ≡ c
all_bound [] b c h = cc
all_bound (n ∷ rest) b c h = cc

one_of_two : (m : ℕ) → list_any (nat_eq m) (0 ∷ 1 ∷ []) ≡ true → (m ≡ 0) ⊎ (m ≡ 1)
one_of_two m h =
    elim (or_cases (nat_eq m 0) (nat_eq m 1 || false) h) [
      | inl e ↦ inl (eqb-true m 0 e)
      | inr e ↦ elim (or_cases (nat_eq m 1) false e) [ inl e ↦ inr (eqb-true m 1 e) | inr e ↦ absurd (false≢true e) ]
    ]

-- one index or the other
bound_more : (f : ForAll) (later : List ForAll) (picks : List ℕ) (b c : List RuleValue) → numbers_of query b f.range ≡ 0 ∷ 1 ∷ [] → bound query (f ∷ later) picks b ≡ Some c
    → (rest : List ℕ)
    × ((bound query later rest (b ++ member_at f.range 0 ∷ []) ≡ Some c) ⊎ (bound query later rest (b ++ member_at f.range 1 ∷ []) ≡ Some c))
bound_more f later [] b c numbers h = cc
bound_more f later (n ∷ rest) b c numbers h = (rest, from (not (nat_eq n 0) && list_any (nat_eq (n - 1)) (numbers_of query b f.range)) refl h)
  where
    from : (t : Bool) → (not (nat_eq n 0) && list_any (nat_eq (n - 1)) (numbers_of query b f.range)) ≡ t
        → (if t then bound query later rest (b ++ member_at f.range (n - 1) ∷ []) else None) ≡ Some c
        → (bound query later rest (b ++ member_at f.range 0 ∷ []) ≡ Some c) ⊎ (bound query later rest (b ++ member_at f.range 1 ∷ []) ≡ Some c)
    from false is h = cc
    from true is h =
        let parts = and_parts (not (nat_eq n 0)) (list_any (nat_eq (n - 1)) (numbers_of query b f.range)) is in
        elim (one_of_two (n - 1) (ap (list_any (nat_eq (n - 1))) (sym numbers) ∙ parts.1)) [
          | inl e ↦ inl (ap (λ (m : ℕ). bound query later rest (b ++ member_at f.range m ∷ [])) (sym e) ∙ h)
          | inr e ↦ inr (ap (λ (m : ℕ). bound query later rest (b ++ member_at f.range m ∷ [])) (sym e) ∙ h)
        ]

-- ---- the alternatives

abbrev body_where : Alternative → List RuleValue → Option Expected
body_where a c = if meets query c a.condition then Some (Expression a.body c) else None

abbrev body_under : List ℕ → List RuleValue → Alternative → Option Expected
body_under picks b a = option_and_then (body_where a) (bound query a.ranges picks b)

of_all : (picks : List ℕ) (z : Expected) → body_under picks arguments reading_all ≡ Some z → IsBody z
unfolding IsBody
of_all [] z h = inl cc
of_all (n ∷ picks) z h = cc

of_one : (picks : List ℕ) (z : Expected) → body_under picks arguments reading_one ≡ Some z → IsBody z
unfolding IsBody
of_one picks z h =
    let c = bind (body_where reading_one) (bound query reading_one.ranges picks arguments) z h in
    let more = bound_more (on_indexes (codes "x")) [] picks arguments c.0 (two (is.Preds 3 ∷ [])) c.1 in
    elim more.1 [
      | inl e ↦ inr (inl (at (under 0) c.0 (all_bound more.0 (under 0) c.0 e) c.2))
      | inr e ↦ inr (inr (inl (at (under 1) c.0 (all_bound more.0 (under 1) c.0 e) c.2)))
    ]
  where
    at : (b c : List RuleValue) → b ≡ c → Some (Expression one c) ≡ Some z → Expression one b ≡ z
    at b c is e = let same : Expression one c ≡ z = cc in ap (Expression one) is ∙ same

where_met : (c : List RuleValue) (z : Expected) → body_where reading_both c ≡ Some z → (meets query c reading_both.condition ≡ true) × (Expression both c ≡ z)
where_met c z h = go (meets query c reading_both.condition) refl h
  where
    go : (t : Bool) → meets query c reading_both.condition ≡ t → (if t then Some (Expression both c) else None) ≡ Some z
        → (meets query c reading_both.condition ≡ true) × (Expression both c ≡ z)
    go true is e = (is, cc)
    go false is e = cc

unmet : {P : Type 0} (b c : List RuleValue) → meets query b reading_both.condition ≡ false → b ≡ c → meets query c reading_both.condition ≡ true → P
unmet b c no_ is yes_ = absurd (false≢true (sym no_ ∙ ap (λ (d : List RuleValue). meets query d reading_both.condition) is ∙ yes_))

of_both : (picks : List ℕ) (z : Expected) → body_under picks arguments reading_both ≡ Some z → IsBody z
unfolding IsBody
of_both picks z h =
    let c = bind (body_where reading_both) (bound query reading_both.ranges picks arguments) z h in
    let met = where_met c.0 z c.2 in
    let more = bound_more (on_indexes (codes "x")) (on_indexes (codes "y") ∷ []) picks arguments c.0 (two (is.Preds 3 ∷ [])) c.1 in
    elim more.1 [
      | inl e ↦
          let then_ = bound_more (on_indexes (codes "y")) [] more.0 (under 0) c.0 (two (is.Preds 3 ∷ is.Index 0 ∷ [])) e in
          elim then_.1 [
            | inl e ↦ unmet (under_both 0 0) c.0 first_twice (all_bound then_.0 (under_both 0 0) c.0 e) met.0
            | inr e ↦ inr (inr (inr (inl (ap (Expression both) (all_bound then_.0 (under_both 0 1) c.0 e) ∙ met.1))))
          ]
      | inr e ↦
          let then_ = bound_more (on_indexes (codes "y")) [] more.0 (under 1) c.0 (two (is.Preds 3 ∷ is.Index 1 ∷ [])) e in
          elim then_.1 [
            | inl e ↦ inr (inr (inr (inr (ap (Expression both) (all_bound then_.0 (under_both 1 0) c.0 e) ∙ met.1))))
            | inr e ↦ unmet (under_both 1 1) c.0 second_twice (all_bound then_.0 (under_both 1 1) c.0 e) met.0
          ]
    ]

body_is : (a : Alternative) (picks : List ℕ) (z : Expected) → (reading_all ≡ a) ⊎ (reading_one ≡ a) ⊎ (reading_both ≡ a) → body_under picks arguments a ≡ Some z → IsBody z
body_is a picks z (inl e) h = of_all picks z (ap (body_under picks arguments) e ∙ h)
body_is a picks z (inr (inl e)) h = of_one picks z (ap (body_under picks arguments) e ∙ h)
body_is a picks z (inr (inr e)) h = of_both picks z (ap (body_under picks arguments) e ∙ h)

bodies : (n : ℕ) (picks : List ℕ) (z : Expected) → body_of query rules (codes "Paths") arguments n picks ≡ Some z → IsBody z
bodies n picks z h =
    let a = bind (body_under picks arguments) (alternative_of rules (codes "Paths") n) z h in
    body_is a.0 picks z (at_three reading_all reading_one reading_both a.0 (n - 1) (unchosen (nat_eq n 0) _ a.0 a.1)) a.2

of_paths : (e : DerivedPlan) → IsDerived query rules (Call (codes "Paths") arguments) e → Costly (vector_of e)
of_paths e h =
    let way = (call_ways query rules (codes "Paths") arguments e).0 h in
    let body = way.2 in
    subst Costly (sym (ap vector_of body.4)) (at_body body.0 body.1 (bodies way.0 way.1 body.0 body.2) body.3)

-- ---- the STAR of the goal refers to that of the accesses

abbrev of_goal : List RuleValue
of_goal = plain 1 ∷ is.Preds 0 ∷ []

abbrev pushed_too : List ValueExpr
pushed_too = stream ∷ v.Union (v.Inside (v.Tables stream)) (variable.Variable (codes "J") 1) ∷ []

abbrev referring : PlanExpr
referring = made.Reference (codes "Paths") pushed_too

abbrev reaching : Alternative
reaching = record { ranges = []; condition = None; body = referring }

handed_on : values_of query of_goal pushed_too ≡ arguments
unfolding meaning eligible set_of has members union places
handed_on = refl

only_reference : (picks : List ℕ) (z : Expected) → body_under picks of_goal reaching ≡ Some z → Expression referring of_goal ≡ z
only_reference [] z h = cc
only_reference (n ∷ picks) z h = cc

at_one : {A : Type 0} (a b : A) (n : ℕ) → slice_get (a ∷ []) n ≡ Some b → a ≡ b
at_one a b zero h = cc
at_one a b (suc n) h = cc

of_root : (e : DerivedPlan) → IsDerived query rules (Call (codes "AccessRoot") of_goal) e → Costly (vector_of e)
of_root e h =
    let way = (call_ways query rules (codes "AccessRoot") of_goal e).0 h in
    let body = way.2 in
    let a = bind (body_under way.1 of_goal) (alternative_of rules (codes "AccessRoot") way.0) body.0 body.2 in
    let chosen : reaching ≡ a.0 = at_one reaching a.0 (way.0 - 1) (unchosen (nat_eq way.0 0) _ a.0 a.1) in
    let is = only_reference way.1 body.0 (ap (body_under way.1 of_goal) chosen ∙ a.2) in
    let called = (reference_ways query rules (codes "Paths") pushed_too of_goal body.1).0 (subst (λ (z : Expected). IsDerived query rules z body.1) (sym is) body.3) in
    let here = subst (λ (b : List RuleValue). IsDerived query rules (Call (codes "Paths") b) body.1) handed_on called in
    subst Costly (sym (ap vector_of body.4)) (of_paths body.1 here)

at_goal : (e : DerivedPlan) → IsDerived query rules (ForGoal 1 0) e → Costly (vector_of e)
at_goal e h =
    let way = (goal_ways query rules 1 0 e).0 h in
    let split = way.1 in
    let call = subst (λ (s : Option (ℕ × ℕ)). IsDerived query rules (root_call 1 0 s) split.0) (sym (no_split way.0 split.1)) split.2 in
    subst Costly (sym (ap vector_of split.3.1)) (of_root split.0 call)

costs : (u : Props) → IsOfGoal query rules 1 0 u → Costly u
costs u of =
    let e = plan_of_vector query rules (ForGoal 1 0) of.0 u of.1 in
    subst Costly e.2 (at_goal e.0 e.1)

-- ---- the least cost

one_goal : query_goal query ≡ ForGoal 1 0
unfolding set_of places
one_goal = refl

-- the plan of a root derivation is one of the goal, since the query requires nothing
root_of_goal : (d : Deriv) (u : Props) → IsRoot query rules d u → IsOfGoal query rules 1 0 u
root_of_goal d u root =
    let none = no_chain root.chain root.one_of_chains in
    let whole_ : vector query (costs_of rules) root.goal_plan ≡ Some u =
    subst (λ (chain : List GlueOp). vector query (costs_of rules) (chain_over (root_requirement query) chain root.goal_plan) ≡ Some u) none root.of_plan
    in
    let here : HasVector query rules root.goal_node (query_goal query) u =
    record { valid = root.valid; of_plan = ap (option_and_then (vector query (costs_of rules))) root.of_goal ∙ whole_ }
    in
    (root.goal_node, subst (λ (z : Expected). HasVector query rules root.goal_node z u) one_goal here)

pub both_are_least : HasLeastCost query rules tree.both_indexes 385
both_are_least = (
  by_both,
  record {
    root = (judges_root query rules tree.both_indexes by_both).0 both_judged;
    least = λ other u root. costs u (root_of_goal other u root);
  },
  refl,
)

pub one_is_not_least : (u : Props) → IsLeast query rules by_one_index u → ⊥
one_is_not_least u is =
    let judged = sym one_judged ∙ (judges_root query rules by_one_index u).1 is.root in
    let same : by_second ≡ u = one_judgement judged in
    let cost : 615 ≡ u.cost = ap (λ (w : Props). w.cost) same in
    let least : u.cost ≤ 385 = is.least tree.both_indexes by_both ((judges_root query rules tree.both_indexes by_both).0 both_judged) in
    omega (arith, cost, least)
  where
    one_judgement : {a b : Props} → Vector a ≡ Vector b → a ≡ b
    one_judgement e = cc
