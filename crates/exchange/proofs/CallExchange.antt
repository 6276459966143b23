-- Of sets that have what is best where the bodies of a STAR's alternatives are, references make one that has what is best where it is called.
use Prim.Native.Nat.{zero, suc}
use Rattle.std.proofs.Common.{◌≡◌, ℕ, ◌+◌, ◌-◌, Bool, true, false, not, ◌&&◌, nat_eq, List, [], ◌∷◌, ◌++◌, Some, None, refl, ap, sym, ◌∙◌, subst, append_assoc, append-nil, if◌then◌else◌, arith}
use Rattle.std.specs.Prelude.{Contains, option_and_then, ◌↔◌}
use Rattle.std.specs.List.{list_any}
use Rattle.std.proofs.lemmas.Bool.{false≢true, and_parts, eqb-true, eq-eqb, ne_eqb}
use Rattle.std.proofs.lemmas.List.Folds.{Any-from_list_any, list_any-from_Any}
use Rattle.star_model.specs.Vectors.{is_better}
use Rattle.star_model.specs.Meaning.{numbers_of, member_at}
use Rattle.star_model.specs.Expected.{Expected, Call, Expression, values_of, bound, meets}
use Rattle.star_model.specs.Stars.{alternative_of}
use Rattle.star_model.specs.declared.query.Query.{Query}
use Rattle.star_model.specs.declared.rules.Alternative.{Alternative}
use Rattle.star_model.specs.declared.rules.ForAll.{ForAll}
use Rattle.star_model.specs.declared.rules.PlanExpr.TheVariants as plain
use Rattle.star_model.specs.declared.rules.ValueExpr.{ValueExpr}
use Rattle.star_model.specs.declared.rules.RuleFile.{RuleFile}
use Rattle.star_model.specs.declared.values.RuleValue.{RuleValue}
use Rattle.dominance_prune.specs.Gathering.{Gathers, From}
use Rattle.dominance_prune.specs.GatheringCases.{Gathers-represented, Gathers-same, Gathers-nothing}
use Rattle.lolepop.specs.Derived.{DerivedPlan, vector_of, is_better_plan, under_reference}
use Rattle.exchange.specs.Places.{IsDerived, IsBestOf, RefersTo, BodyWay, BoundWay, RangesWay}
use Rattle.exchange.proofs.CallWays.{call_derived, call_way, reference_derived, reference_way}
use Rattle.exchange.proofs.Reading.{bind, some_is, chosen, chosen_of}
use Rattle.exchange.proofs.OperatorExchange.{better_plan_transitive, best_above, best_derived}

any_member : (ns : List ℕ) (n : ℕ) → list_any (nat_eq n) ns ≡ true → Contains ns n
any_member ns n h =
    let (k, m, below, at, is) = Any-from_list_any (nat_eq n) ns h in subst (λ (u : ℕ). Contains ns u) (sym (eqb-true n m is)) (k, below, at)

member_any : (ns : List ℕ) (n : ℕ) → Contains ns n → list_any (nat_eq n) ns ≡ true
member_any ns n (k, below, at) = list_any-from_Any (nat_eq n) ns (k, n, below, at, eq-eqb n n refl)

one_more : (k : ℕ) → not (nat_eq k 0) ≡ true → k - 1 + 1 ≡ k
one_more zero h = absurd (false≢true h)
one_more (suc k) h = omega arith

-- one more name is bound to the member of its range that has the number
pub bound_step : (q : Query) (f : ForAll) (fs : List ForAll) (m : ℕ) (more : List ℕ) (c : List RuleValue) → Contains (numbers_of q c f.range) m
    → bound q (f ∷ fs) ((m + 1) ∷ more) c ≡ bound q fs more (c ++ member_at f.range m ∷ [])
bound_step q f fs m more c among =
    let back : m + 1 - 1 ≡ m = omega arith in
    let some : not (nat_eq (m + 1) 0) ≡ true = ap (λ b. not b) (ne_eqb (m + 1) 0 (λ h. let no : ⊥ = omega (arith, h) in no)) in
    let test : (not (nat_eq (m + 1) 0) && list_any (nat_eq (m + 1 - 1)) (numbers_of q c f.range)) ≡ true =
    (λ k. some k && list_any (nat_eq (back k)) (numbers_of q c f.range)) ∙ member_any (numbers_of q c f.range) m among in
    (λ k. if test k then bound q fs more (c ++ member_at f.range (back k) ∷ []) else None)

-- a list of values that fits no name
none_is : {A : Type 0} (e : A) → None ≡ Some e → ⊥
none_is e h = cc

module _ (q : Query) (rules : RuleFile) where
  module _ (star : List ℕ) (n : ℕ) (a : Alternative) where
    none_left : (picked : List ℕ) (c : List RuleValue) (x : DerivedPlan) → RangesWay q rules star n a [] picked c x → BoundWay q rules star n a picked c x
    none_left picked c x ([], e, made, (i, ok, derived, is)) =
        let same : c ≡ e = some_is c e made in (
          i,
          ap (λ b. meets q b a.condition) same ∙ ok,
          subst (λ (b : List RuleValue). IsDerived q rules (Expression a.body b) i) (sym same) derived,
          is ∙ ap (λ ps. under_reference star n ps i) (append-nil picked),
        )
    none_left picked c x (k ∷ ks, e, made, (i, ok, derived, is)) = absurd (none_is e made)

    -- no for-all name is left
    pub ranges_none : (picked : List ℕ) (c : List RuleValue) (x : DerivedPlan) → RangesWay q rules star n a [] picked c x ↔ BoundWay q rules star n a picked c x
    ranges_none picked c x = (
      none_left picked c x,
      (λ way. ([], c, refl, (way.0, way.1, way.2, way.3 ∙ ap (λ ps. under_reference star n ps way.0) (sym (append-nil picked))))),
    )

    bind_next : (f : ForAll) (fs : List ForAll) (picked : List ℕ) (c : List RuleValue) (x : DerivedPlan) → From (numbers_of q c f.range) (λ m. RangesWay q rules star n a fs (picked ++ (m + 1) ∷ []) (c ++ member_at f.range m ∷ [])) x → RangesWay q rules star n a (f ∷ fs) picked c x
    bind_next f fs picked c x (m, among, (more, e, made, (i, ok, derived, is))) = (
      (m + 1) ∷ more,
      e,
      bound_step q f fs m more c among ∙ made,
      (i, ok, derived, is ∙ ap (λ ps. under_reference star n ps i) (append_assoc picked ((m + 1) ∷ []) more)),
    )

    next_bound : (f : ForAll) (fs : List ForAll) (picked : List ℕ) (c : List RuleValue) (x : DerivedPlan) → RangesWay q rules star n a (f ∷ fs) picked c x → From (numbers_of q c f.range) (λ m. RangesWay q rules star n a fs (picked ++ (m + 1) ∷ []) (c ++ member_at f.range m ∷ [])) x
    next_bound f fs picked c x ([], e, made, (i, ok, derived, is)) = absurd (none_is e made)
    next_bound f fs picked c x (k ∷ ks, e, made, (i, ok, derived, is)) =
        let t = chosen_of (not (nat_eq k 0) && list_any (nat_eq (k - 1)) (numbers_of q c f.range)) (bound q fs ks (c ++ member_at f.range (k - 1) ∷ [])) e made in
        let p = and_parts (not (nat_eq k 0)) (list_any (nat_eq (k - 1)) (numbers_of q c f.range)) t.0 in (
          k - 1,
          any_member (numbers_of q c f.range) (k - 1) p.1,
          (ks, e, t.1, (i, ok, derived, is ∙ ap (λ ps. under_reference star n ps i) (sym (append_assoc picked ((k - 1 + 1) ∷ []) ks ∙ ap (λ j. picked ++ j ∷ ks) (one_more k p.0))))),
        )

    -- the next for-all name has each value of its range
    pub ranges_more : (f : ForAll) (fs : List ForAll) (picked : List ℕ) (c : List RuleValue) (x : DerivedPlan) → RangesWay q rules star n a (f ∷ fs) picked c x ↔ From (numbers_of q c f.range) (λ m. RangesWay q rules star n a fs (picked ++ (m + 1) ∷ []) (c ++ member_at f.range m ∷ [])) x
    ranges_more f fs picked c x = (next_bound f fs picked c x, bind_next f fs picked c x)

  body_way : (star : List ℕ) (b : List RuleValue) (n : ℕ) (a : Alternative) (x : DerivedPlan) → alternative_of rules star n ≡ Some a
      → RangesWay q rules star n a a.ranges [] b x → (picks : List ℕ) × BodyWay q rules star b n picks x
  body_way star b n a x found (more, e, made, (i, ok, derived, is)) = (
    more,
    (
      Expression a.body e,
      i,
      ap (option_and_then (λ (a : Alternative). option_and_then (λ (c : List RuleValue). if meets q c a.condition then Some (Expression a.body c) else None) (bound q a.ranges more b))) found
          ∙ ap (option_and_then (λ (c : List RuleValue). if meets q c a.condition then Some (Expression a.body c) else None)) made
          ∙ ap (λ (t : Bool). if t then Some (Expression a.body e) else None) ok,
      derived,
      is,
    ),
  )

  ranges_way : (star : List ℕ) (b : List RuleValue) (n : ℕ) (picks : List ℕ) (x : DerivedPlan) → BodyWay q rules star b n picks x
      → (a : Alternative) × (alternative_of rules star n ≡ Some a) × RangesWay q rules star n a a.ranges [] b x
  ranges_way star b n picks x (y, i, body, derived, is) =
      let k = bind (λ (a : Alternative). option_and_then (λ (c : List RuleValue). if meets q c a.condition then Some (Expression a.body c) else None) (bound q a.ranges picks b)) (alternative_of rules star n) y body in
      let l = bind (λ (c : List RuleValue). if meets q c k.0.condition then Some (Expression k.0.body c) else None) (bound q k.0.ranges picks b) y k.2 in
      let m = chosen (meets q l.0 k.0.condition) (Expression k.0.body l.0) y l.2 in
      (k.0, k.1, (picks, l.0, l.1, (i, m.0, subst (λ (u : Expected). IsDerived q rules u i) (sym m.1) derived, is)))

  -- with its number an alternative has no name bound yet
  pub alternative_ways : (star : List ℕ) (b : List RuleValue) (n : ℕ) (x : DerivedPlan)
      → ((picks : List ℕ) × BodyWay q rules star b n picks x) ↔ ((a : Alternative) × (alternative_of rules star n ≡ Some a) × RangesWay q rules star n a a.ranges [] b x)
  alternative_ways star b n x = ((λ way. ranges_way star b n way.0 x way.1), (λ way. body_way star b n way.0 x way.1 way.2))

module _ (q : Query) (rules : RuleFile) where
  -- a condition that doesn't hold: the alternative gives nothing under these bindings
  pub body_unmet : (star : List ℕ) (n : ℕ) (a : Alternative) (picked : List ℕ) (c : List RuleValue) (plans : List DerivedPlan) → meets q c a.condition ≡ false
      → Gathers is_better_plan plans plans (RangesWay q rules star n a [] picked c)
  body_unmet star n a picked c plans unmet =
      Gathers-nothing is_better_plan (RangesWay q rules star n a [] picked c) plans (λ x way. false≢true (sym unmet ∙ ((ranges_none q rules star n a picked c x).0 way).1))

  -- each member of the next name's range, after which the name is bound
  pub ranges_exchange : (star : List ℕ) (n : ℕ) (a : Alternative) (f : ForAll) (fs : List ForAll) (picked : List ℕ) (c : List RuleValue) (old new : List DerivedPlan)
      → Gathers is_better_plan old new (From (numbers_of q c f.range) (λ m. RangesWay q rules star n a fs (picked ++ (m + 1) ∷ []) (c ++ member_at f.range m ∷ [])))
      → Gathers is_better_plan old new (RangesWay q rules star n a (f ∷ fs) picked c)
  ranges_exchange star n a f fs picked c old new g =
      Gathers-same is_better_plan (From (numbers_of q c f.range) (λ m. RangesWay q rules star n a fs (picked ++ (m + 1) ∷ []) (c ++ member_at f.range m ∷ []))) (RangesWay q rules star n a (f ∷ fs) picked c)
      old new (λ x way. (ranges_more q rules star n a f fs picked c x).1 way) (λ x way. (ranges_more q rules star n a f fs picked c x).0 way) g

  -- each alternative of the STAR
  pub call_exchange : (star : List ℕ) (b : List RuleValue) (old new : List DerivedPlan)
      → Gathers is_better_plan old new (λ x. (n : ℕ) × (a : Alternative) × (alternative_of rules star n ≡ Some a) × RangesWay q rules star n a a.ranges [] b x)
      → Gathers is_better_plan old new (IsDerived q rules (Call star b))
  call_exchange star b old new g =
      Gathers-same is_better_plan (λ x. (n : ℕ) × (a : Alternative) × (alternative_of rules star n ≡ Some a) × RangesWay q rules star n a a.ranges [] b x) (IsDerived q rules (Call star b)) old new
      (λ x way. let made = body_way q rules star b way.0 way.1 x way.2 way.3 in call_derived q rules star b x (way.0, made.0, made.1))
      (λ x derived. let way = call_way q rules star b x derived in let made = ranges_way q rules star b way.0 way.1 x way.2 in (way.0, made.0, made.1, made.2))
      g

  -- what is best where a STAR is called is best where it is referred to
  pub reference_exchange : (star : List ℕ) (args : List ValueExpr) (b : List RuleValue) (plans : List DerivedPlan) → IsBestOf q rules (Call star (values_of q b args)) plans
      → IsBestOf q rules (Expression (plain.Reference star args) b) plans
  reference_exchange star args b plans best = record {
    gathered = Gathers-same is_better_plan (IsDerived q rules (Call star (values_of q b args))) (IsDerived q rules (Expression (plain.Reference star args) b)) [] plans
        (reference_derived q rules star args b) (reference_way q rules star args b) best.gathered;
    apart = best.apart;
  }

module _ (q : Query) (rules : RuleFile) where
  -- the set of a body whose condition holds, each member below a reference
  pub body_exchange : (star : List ℕ) (n : ℕ) (a : Alternative) (picked : List ℕ) (c : List RuleValue) (plans old new : List DerivedPlan) → meets q c a.condition ≡ true
      → IsBestOf q rules (Expression a.body c) plans → Gathers is_better_plan old new (From plans (RefersTo star n picked)) → Gathers is_better_plan old new (RangesWay q rules star n a [] picked c)
  body_exchange star n a picked c plans old new met best g =
      Gathers-represented is_better_plan better_plan_transitive (From plans (RefersTo star n picked)) (RangesWay q rules star n a [] picked c) old new
      (λ x made. (ranges_none q rules star n a picked c x).1 (made.0, met, best_derived q rules (Expression a.body c) plans best made.0 made.1, made.2))
      (λ x ways.
      let way = (ranges_none q rules star n a picked c x).0 ways in
      let m = best_above q rules (Expression a.body c) plans best way.0 way.2 in
      (under_reference star n picked m.0, (m.0, m.1, refl), (λ k. is_better (vector_of m.0) (vector_of (way.3 k))) ∙ m.2))
      g
