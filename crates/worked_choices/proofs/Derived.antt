-- Each vector of the query's goal is one of the three.
use Rattle.std.proofs.Common.{◌≡◌, ℕ, ◌-◌, zero, suc, Bool, true, false, nat_eq, List, [], ◌∷◌, Option, Some, None, codes, refl, ap, sym, subst, ◌∙◌, if◌then◌else◌, ◌⊎◌, inl, inr}
use Rattle.std.specs.Prelude.{slice_get, option_and_then}
use Rattle.std.specs.Option.{option_map}
use Rattle.star_model.specs.Costs.{costs_of}
use Rattle.star_model.specs.Sets.{places, has, members}
use Rattle.star_model.specs.Operators.{step}
use Rattle.star_model.specs.Meaning.{meaning, plain}
use Rattle.star_model.specs.Stars.{alternative_of}
use Rattle.star_model.specs.Expected.{Expected, ForGoal, Call, Expression, root_call, may_split, body_of, bound, meets, operator_of, values_of}
use Rattle.star_model.specs.Derivations.{IsOfGoal}
use Rattle.star_model.specs.PlanExprCases as expr
use Rattle.star_model.specs.declared.rules.PlanExpr.TheVariants as made
use Rattle.star_model.specs.declared.rules.PlanExpr.{PlanExpr}
use Rattle.star_model.specs.declared.rules.ValueExpr.TheVariants as value
use Rattle.star_model.specs.declared.rules.Alternative.{Alternative}
use Rattle.star_model.specs.declared.rules.Flavour.TheVariants as flavour
use Rattle.star_model.specs.declared.plans.Op.{Op}
use Rattle.star_model.specs.declared.plans.Op.TheVariants as op
use Rattle.star_model.specs.declared.plans.Props.{Props}
use Rattle.star_model.specs.declared.values.RuleValue.{RuleValue}
use Rattle.star_model.specs.declared.values.RuleValue.TheVariants as is
use Rattle.lolepop.specs.Derived.{DerivedPlan, vector_of}
use Rattle.exchange.specs.Places.{IsDerived}
use Rattle.exchange.proofs.Laws.{leaf_ways, unary_ways, call_ways, goal_ways, plan_of_vector}
use Rattle.worked_choices.specs.Storing.{query, rules, read_alone, and_stored, stored_again}
use Rattle.worked_choices.specs.Claims.{IsOneOf}
use Rattle.worked_choices.proofs.Vectors.{reads, stores, stores_again}

-- the values of `AccessRoot`, and the bodies of its alternatives
abbrev arguments : List RuleValue
arguments = plain 1 ∷ is.Preds 0 ∷ []

abbrev heap : PlanExpr
heap = made.Leaf flavour.AccessHeap ((value.Variable (codes "A") 0) ∷ (value.Variable (codes "J") 1) ∷ [])

abbrev stored : PlanExpr → PlanExpr
stored e = expr.Unary flavour.Store (value.NoCols ∷ []) e

abbrev giving : PlanExpr → Alternative
giving e = record { ranges = []; condition = None; body = e }

pub made_of : {A : Type 0} (f : A → DerivedPlan) (o : Option A) (x : DerivedPlan) → option_map f o ≡ Some x → (a : A) × (o ≡ Some a) × (f a ≡ x)
made_of f (Some a) x h = (a, refl, cc)
made_of f None x h = cc

pub one_vector : (v w : Props) (o : Option Props) → o ≡ Some v → o ≡ Some w → v ≡ w
one_vector v w o p q = let e : Some v ≡ Some w = sym p ∙ q in cc

heap_op : operator_of flavour.AccessHeap (values_of query arguments ((value.Variable (codes "A") 0) ∷ (value.Variable (codes "J") 1) ∷ [])) ≡ op.AccessHeap 1 0
unfolding meaning
heap_op = refl

store_op : operator_of flavour.Store (values_of query arguments (value.NoCols ∷ [])) ≡ op.Store []
unfolding meaning
store_op = refl

-- the plan of a heap access
of_heap : (e : DerivedPlan) → IsDerived query rules (Expression heap arguments) e → vector_of e ≡ read_alone
of_heap e h =
    let o = operator_of flavour.AccessHeap (values_of query arguments ((value.Variable (codes "A") 0) ∷ (value.Variable (codes "J") 1) ∷ [])) in
    let way = (leaf_ways query rules flavour.AccessHeap ((value.Variable (codes "A") 0) ∷ (value.Variable (codes "J") 1) ∷ []) arguments e).0 h in
    let m = made_of _ (step query (costs_of rules) o []) e way in
    ap vector_of (sym m.2) ∙ one_vector m.0 read_alone (step query (costs_of rules) o []) m.1 (ap (λ (p : Op). step query (costs_of rules) p []) heap_op ∙ reads)

-- a STORE over plans that have one vector
of_stored : (below : PlanExpr) (v w : Props) → ((i : DerivedPlan) → IsDerived query rules (Expression below arguments) i → vector_of i ≡ v)
    → step query (costs_of rules) (op.Store []) (v ∷ []) ≡ Some w → (e : DerivedPlan) → IsDerived query rules (Expression (stored below) arguments) e → vector_of e ≡ w
of_stored below v w all steps e h =
    let o = operator_of flavour.Store (values_of query arguments (value.NoCols ∷ [])) in
    let way = (unary_ways query rules flavour.Store (value.NoCols ∷ []) arguments below e).0 h in
    let i = way.0 in
    let m = made_of _ (step query (costs_of rules) o (vector_of i ∷ [])) e way.2 in
    ap vector_of (sym m.2) ∙ one_vector m.0 w (step query (costs_of rules) o (vector_of i ∷ [])) m.1
    (ap (λ (p : Op). step query (costs_of rules) p (vector_of i ∷ [])) store_op ∙ (ap (λ (u : Props). step query (costs_of rules) (op.Store []) (u ∷ [])) (all i way.1) ∙ steps))

-- ---- the alternatives

pub bind : {A B : Type 0} (f : A → Option B) (o : Option A) (b : B) → option_and_then f o ≡ Some b → (a : A) × (o ≡ Some a) × (f a ≡ Some b)
bind f None b h = cc
bind f (Some a) b h = (a, refl, h)

pub unchosen : {A : Type 0} (b : Bool) (o : Option A) (a : A) → (if b then None else o) ≡ Some a → o ≡ Some a
unchosen true o a h = cc
unchosen false o a h = h

pub at_three : {A : Type 0} (x y z a : A) (n : ℕ) → slice_get (x ∷ y ∷ z ∷ []) n ≡ Some a → (x ≡ a) ⊎ (y ≡ a) ⊎ (z ≡ a)
at_three x y z a zero h = inl cc
at_three x y z a (suc zero) h = inr (inl cc)
at_three x y z a (suc (suc zero)) h = inr (inr cc)
at_three x y z a (suc (suc (suc n))) h = cc

-- the body of an alternative with neither ranges nor a condition
only_body : (e : PlanExpr) (picks : List ℕ) (y : Expected)
    → option_and_then (λ c. if meets query c (giving e).condition then Some (Expression (giving e).body c) else None) (bound query (giving e).ranges picks arguments) ≡ Some y
    → Expression e arguments ≡ y
only_body e [] y h = cc
only_body e (n ∷ picks) y h = cc

abbrev body_under : List ℕ → Alternative → Option Expected
body_under picks a = option_and_then (λ c. if meets query c a.condition then Some (Expression a.body c) else None) (bound query a.ranges picks arguments)

abbrev IsBody : Expected → Type 0
IsBody y = (Expression heap arguments ≡ y) ⊎ (Expression (stored heap) arguments ≡ y) ⊎ (Expression (stored (stored heap)) arguments ≡ y)

body_is : (a : Alternative) (picks : List ℕ) (y : Expected) → (giving heap ≡ a) ⊎ (giving (stored heap) ≡ a) ⊎ (giving (stored (stored heap)) ≡ a)
    → body_under picks a ≡ Some y → IsBody y
body_is a picks y (inl e) h = inl (only_body heap picks y (ap (body_under picks) e ∙ h))
body_is a picks y (inr (inl e)) h = inr (inl (only_body (stored heap) picks y (ap (body_under picks) e ∙ h)))
body_is a picks y (inr (inr e)) h = inr (inr (only_body (stored (stored heap)) picks y (ap (body_under picks) e ∙ h)))

bodies : (n : ℕ) (picks : List ℕ) (y : Expected) → body_of query rules (codes "AccessRoot") arguments n picks ≡ Some y → IsBody y
bodies n picks y h =
    let a = bind (body_under picks) (alternative_of rules (codes "AccessRoot") n) y h in
    body_is a.0 picks y (at_three (giving heap) (giving (stored heap)) (giving (stored (stored heap))) a.0 (n - 1) (unchosen (nat_eq n 0) _ a.0 a.1)) a.2

at_body : (y : Expected) (i : DerivedPlan) → IsBody y → IsDerived query rules y i → IsOneOf (vector_of i)
at_body y i (inl is) h = inl (of_heap i (subst (λ (x : Expected). IsDerived query rules x i) (sym is) h))
at_body y i (inr (inl is)) h = inr (inl (of_stored heap read_alone and_stored of_heap stores i (subst (λ (x : Expected). IsDerived query rules x i) (sym is) h)))
at_body y i (inr (inr is)) h =
    inr (inr (of_stored (stored heap) and_stored stored_again (of_stored heap read_alone and_stored of_heap stores) stores_again i (subst (λ (x : Expected). IsDerived query rules x i) (sym is) h)))

of_call : (e : DerivedPlan) → IsDerived query rules (Call (codes "AccessRoot") arguments) e → IsOneOf (vector_of e)
of_call e h =
    let way = (call_ways query rules (codes "AccessRoot") arguments e).0 h in
    let body = way.2 in
    subst IsOneOf (sym (ap vector_of body.4)) (at_body body.0 body.1 (bodies way.0 way.1 body.0 body.2) body.3)

-- ---- the goal

pub no_split : (split : Option (ℕ × ℕ)) → may_split 1 split ≡ true → None ≡ split
unfolding members has places
no_split None h = refl
no_split (Some p) h = cc

of_goal : (e : DerivedPlan) → IsDerived query rules (ForGoal 1 0) e → IsOneOf (vector_of e)
of_goal e h =
    let way = (goal_ways query rules 1 0 e).0 h in
    let split = way.1 in
    let call = subst (λ (s : Option (ℕ × ℕ)). IsDerived query rules (root_call 1 0 s) split.0) (sym (no_split way.0 split.1)) split.2 in
    subst IsOneOf (sym (ap vector_of split.3.1)) (of_call split.0 call)

pub no_other : (v : Props) → IsOfGoal query rules 1 0 v → IsOneOf v
no_other v of =
    let e = plan_of_vector query rules (ForGoal 1 0) of.0 v of.1 in
    subst IsOneOf e.2 (of_goal e.0 e.1)
