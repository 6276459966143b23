-- Of what an operator makes of its inputs' sets, the best is best where the operator stands.
use Rattle.std.proofs.Common.{◌≡◌, ℕ, List, [], ◌∷◌, Result, Ok, Err, IfOk, Some, refl, ap, sym, ◌∙◌, subst, arith, length}
use Rattle.std.specs.declared.alloc.AllocError.{AllocError}
use Rattle.star_model.specs.Costs.{costs_of}
use Rattle.star_model.specs.Exchange.{CostsPass}
use Rattle.star_model.specs.Expected.{Call, Expression, operator_of, values_of}
use Rattle.star_model.specs.Operators.{flavour_of}
use Rattle.star_model.specs.PlanExprCases as expr
use Rattle.star_model.specs.PlanExprCases.{made-Unary, made-Binary}
use Rattle.star_model.specs.declared.rules.PlanExpr.TheVariants as made
use Rattle.star_model.specs.declared.costs.CostEntry.{CostEntry}
use Rattle.star_model.specs.declared.plans.Op.{Op}
use Rattle.star_model.specs.declared.query.Query.{Query}
use Rattle.star_model.specs.declared.rules.Flavour.{Flavour}
use Rattle.star_model.specs.declared.rules.Flavour.TheVariants.{AccessHeap, AccessIndex, Get, Filter, Sort, Store, Ship, Probe, JoinNl, JoinMerge, JoinHash, Intersect}
use Rattle.star_model.specs.declared.rules.PlanExpr.{PlanExpr}
use Rattle.star_model.specs.declared.rules.ValueExpr.{ValueExpr}
use Rattle.star_model.specs.declared.rules.RuleFile.{RuleFile}
use Rattle.star_model.specs.declared.values.RuleValue.{RuleValue}
use Rattle.dominance_prune.specs.Gathering.{From, IsFrontier}
use Rattle.lolepop.specs.Derived.{DerivedPlan, is_better_plan, derived_leaf, derived_unary, derived_binary}
use Rattle.exchange.specs.Places.{IsBestOf, LeafWay, OverOne, OverTwo}
use Rattle.exchange.proofs.Laws.{leaf_exchange, unary_exchange, binary_exchange, nothing_is_best, binary_nothing, reference_exchange}

-- an operator has the flavour of which it was made
its_flavour : (f : Flavour) (vs : List RuleValue) → flavour_of (operator_of f vs) ≡ f
its_flavour AccessHeap vs = refl
its_flavour AccessIndex vs = refl
its_flavour Get vs = refl
its_flavour Filter vs = refl
its_flavour Sort vs = refl
its_flavour Store vs = refl
its_flavour Ship vs = refl
its_flavour Probe vs = refl
its_flavour JoinNl vs = refl
its_flavour JoinMerge vs = refl
its_flavour JoinHash vs = refl
its_flavour Intersect vs = refl

-- What the code made with these costs and this operator, with the costs of the file and the flavour of the operator. P says what was made
-- of them.
settled : (q : Query) (rules : RuleFile) (f : Flavour) (args : List ValueExpr) (b : List RuleValue) (costs : List CostEntry) (o : Op) (P : List CostEntry → Flavour → Op → Type 0)
    → costs ≡ costs_of rules → o ≡ operator_of f (values_of q b args) → P costs (flavour_of o) o → P (costs_of rules) f (operator_of f (values_of q b args))
settled q rules f args b costs o P are is_op h =
    let vs : List RuleValue = values_of q b args in
    subst (λ (g : Flavour). P (costs_of rules) g (operator_of f vs)) (its_flavour f vs)
    (subst (λ (p : Op). P (costs_of rules) (flavour_of p) p) is_op (subst (λ (cs : List CostEntry). P cs (flavour_of o) o) are h))

module _ (q : Query) (rules : RuleFile) (f : Flavour) (args : List ValueExpr) (b : List RuleValue) (costs : List CostEntry) (o : Op) (are : costs ≡ costs_of rules) (is_op : o ≡ operator_of f (values_of q b args)) where
  pub leaf_made : (set : List DerivedPlan) → IsFrontier is_better_plan (λ x. derived_leaf q costs (flavour_of o) o ≡ Some x) set → IsFrontier is_better_plan (LeafWay q (costs_of rules) f args b) set
  leaf_made set h = settled q rules f args b costs o (λ cs g p. IsFrontier is_better_plan (λ x. derived_leaf q cs g p ≡ Some x) set) are is_op h

  pub unary_made : (inputs set : List DerivedPlan) → IsFrontier is_better_plan (From inputs (λ i x. derived_unary q costs (flavour_of o) o i ≡ Some x)) set
      → IsFrontier is_better_plan (From inputs (OverOne q (costs_of rules) f (operator_of f (values_of q b args)))) set
  unary_made inputs set h = settled q rules f args b costs o (λ cs g p. IsFrontier is_better_plan (From inputs (λ i x. derived_unary q cs g p i ≡ Some x)) set) are is_op h

  pub binary_made : (lefts rights set : List DerivedPlan) → IsFrontier is_better_plan (From lefts (λ l. From rights (λ i x. derived_binary q costs (flavour_of o) o l i ≡ Some x))) set
      → IsFrontier is_better_plan (From lefts (λ l. From rights (OverTwo q (costs_of rules) f (operator_of f (values_of q b args)) l))) set
  binary_made lefts rights set h =
      settled q rules f args b costs o (λ cs g p. IsFrontier is_better_plan (From lefts (λ l. From rights (λ i x. derived_binary q cs g p l i ≡ Some x))) set) are is_op h

-- ---- of the best inputs

module _ (q : Query) (rules : RuleFile) (e : PlanExpr) (f : Flavour) (args given : List ValueExpr) (b : List RuleValue) (same : given ≡ args) where
  pub leaf_done : (r : Result (List DerivedPlan) AllocError) → e ≡ made.Leaf f args → IfOk r (IsFrontier is_better_plan (LeafWay q (costs_of rules) f given b)) → IfOk r (IsBestOf q rules (Expression e b))
  leaf_done (Err x) is h = h
  leaf_done (Ok set) is h =
      let own : IsFrontier is_better_plan (LeafWay q (costs_of rules) f args b) set = subst (λ (es : List ValueExpr). IsFrontier is_better_plan (LeafWay q (costs_of rules) f es b) set) same h in
      subst (λ (x : PlanExpr). IsBestOf q rules (Expression x b) set) (sym is) (record { gathered = leaf_exchange q rules f args b [] set own.gathered; apart = own.apart })

  pub unary_done : CostsPass (costs_of rules) → (input part : PlanExpr) (inputs : List DerivedPlan) (r : Result (List DerivedPlan) AllocError) → e ≡ made.Unary f args input → part ≡ input
      → IsBestOf q rules (Expression part b) inputs → IfOk r (IsFrontier is_better_plan (From inputs (OverOne q (costs_of rules) f (operator_of f (values_of q b given)))))
      → IfOk r (IsBestOf q rules (Expression e b))
  unary_done pass input part inputs (Err x) is below best h = h
  unary_done pass input part inputs (Ok set) is below best h =
      let below_it : IsBestOf q rules (Expression input b) inputs = subst (λ (x : PlanExpr). IsBestOf q rules (Expression x b) inputs) below best in
      let own : IsFrontier is_better_plan (From inputs (OverOne q (costs_of rules) f (operator_of f (values_of q b args)))) set =
      subst (λ (es : List ValueExpr). IsFrontier is_better_plan (From inputs (OverOne q (costs_of rules) f (operator_of f (values_of q b es)))) set) same h in
      subst (λ (x : PlanExpr). IsBestOf q rules (Expression x b) set) (sym (is ∙ made-Unary f args input))
      (record { gathered = unary_exchange q rules pass f args input b inputs [] set below_it own.gathered; apart = own.apart })

  pub binary_done : CostsPass (costs_of rules) → (left right left_part right_part : PlanExpr) (lefts rights : List DerivedPlan) (r : Result (List DerivedPlan) AllocError) → e ≡ made.Binary f args left right
      → left_part ≡ left → right_part ≡ right → IsBestOf q rules (Expression left_part b) lefts → IsBestOf q rules (Expression right_part b) rights
      → IfOk r (IsFrontier is_better_plan (From lefts (λ l. From rights (OverTwo q (costs_of rules) f (operator_of f (values_of q b given)) l)))) → IfOk r (IsBestOf q rules (Expression e b))
  binary_done pass left right left_part right_part lefts rights (Err x) is at_left at_right best_left best_right h = h
  binary_done pass left right left_part right_part lefts rights (Ok set) is at_left at_right best_left best_right h =
      let own_left : IsBestOf q rules (Expression left b) lefts = subst (λ (x : PlanExpr). IsBestOf q rules (Expression x b) lefts) at_left best_left in
      let own_right : IsBestOf q rules (Expression right b) rights = subst (λ (x : PlanExpr). IsBestOf q rules (Expression x b) rights) at_right best_right in
      let own : IsFrontier is_better_plan (From lefts (λ l. From rights (OverTwo q (costs_of rules) f (operator_of f (values_of q b args)) l))) set =
      subst (λ (es : List ValueExpr). IsFrontier is_better_plan (From lefts (λ l. From rights (OverTwo q (costs_of rules) f (operator_of f (values_of q b es)) l))) set) same h in
      subst (λ (x : PlanExpr). IsBestOf q rules (Expression x b) set) (sym (is ∙ made-Binary f args left right))
      (record { gathered = binary_exchange q rules pass f args left right b lefts rights [] set own_left own_right own.gathered; apart = own.apart })

-- nothing is at the left
pub binary_none : (q : Query) (rules : RuleFile) (e : PlanExpr) (f : Flavour) (args : List ValueExpr) (left right part : PlanExpr) (b : List RuleValue) (lefts : List DerivedPlan) → e ≡ made.Binary f args left right
    → part ≡ left → IsBestOf q rules (Expression part b) lefts → length lefts ≡ 0 → IsBestOf q rules (Expression e b) lefts
binary_none q rules e f args left right part b [] is at_left best none =
    let own : IsBestOf q rules (Expression left b) [] = subst (λ (x : PlanExpr). IsBestOf q rules (Expression x b) []) at_left best in
    subst (λ (x : PlanExpr). IsBestOf q rules (Expression x b) []) (sym (is ∙ made-Binary f args left right))
    (nothing_is_best q rules (Expression (expr.Binary f args left right) b) (binary_nothing q rules f args left right b own))
binary_none q rules e f args left right part b (x ∷ xs) is at_left best none = let no : ⊥ = omega (arith, none) in absurd no

-- a reference is the call of its STAR
pub reference_done : (q : Query) (rules : RuleFile) (e : PlanExpr) (star : List ℕ) (args given : List ValueExpr) (b values : List RuleValue) (r : Result (List DerivedPlan) AllocError) → e ≡ made.Reference star args
    → given ≡ args → values ≡ values_of q b given → IfOk r (IsBestOf q rules (Call star values)) → IfOk r (IsBestOf q rules (Expression e b))
reference_done q rules e star args given b values (Err x) is same are h = h
reference_done q rules e star args given b values (Ok set) is same are h =
    let own : IsBestOf q rules (Call star (values_of q b args)) set =
    subst (λ (vs : List RuleValue). IsBestOf q rules (Call star vs) set) (are ∙ ap (values_of q b) same) h in
    subst (λ (x : PlanExpr). IsBestOf q rules (Expression x b) set) (sym is) (reference_exchange q rules star args b set own)
