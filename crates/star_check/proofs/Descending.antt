-- In a file without cycles references go down in height. What follows a STAR are STARs that weren't passed on the way to it, so seen
-- deeper than these are many, a height doesn't grow.
use Prim.Native.Nat.{zero, suc}
use Rattle.std.proofs.Common.{◌≡◌, ℕ, ◌+◌, ◌<◌, ◌≤◌, inl, inr, max, Bool, true, false, ◌||◌, if◌then◌else◌, nat_eq, nat_lt, List, [], ◌∷◌, length, map, refl, ap, sym, ◌∙◌, subst, arith}
use Rattle.std.specs.Prelude.{Option, Some, None, is_none, slice_get, Contains}
use Rattle.std.specs.List.{list_all, fold}
use Rattle.std.specs.Option.{option_map_or}
use Rattle.std.proofs.Math.Bool.{or-true, or-false}
use Rattle.std.proofs.lemmas.Bool.{false≢true, cases_eq, eq-eqb, ne_eqb, lt-ltb, ltb-true, eqb-true, or_cases}
use Rattle.std.proofs.lemmas.Option.{slice_get_within, slice_get-get_or, same_Some}
use Rattle.star_model.specs.Stars.{star_named}
use Rattle.star_model.specs.Vectors.{same_numbers}
use Rattle.star_model.specs.Accepted.{IsAccepted, Reaches, references_of, occurs, height_within, height_of}
use Rattle.star_model.specs.declared.rules.Alternative.{Alternative}
use Rattle.star_model.specs.declared.rules.StarDef.{StarDef}
use Rattle.star_model.specs.declared.rules.ValueExpr.{ValueExpr}
use Rattle.star_model.specs.declared.rules.RuleFile.{RuleFile}
use Rattle.star_check.specs.Heights.{height_named, refers_below}
use Rattle.star_check.proofs.Named.{position_of, stands, is_there, its_name, own_name}
use Rattle.star_check.proofs.Walks.{any_map, every_at, any_and_all, all_in_bodies}
use Rattle.star_check.proofs.Owned.{any_at, fails, names_are_known}
use Rattle.star_model.proofs.Laws.{same_are, same_self}

-- ---- how many of the first positions aren't passed yet

left : (ℕ → Bool) → ℕ → ℕ
left passed zero = 0
left passed (suc n) = (if passed n then 0 else 1) + left passed n

none_passed : (n : ℕ) → left (λ k. false) n ≡ n
unfolding left
none_passed zero = refl
none_passed (suc n) = let e = none_passed n in omega (arith, e)

-- with one passed that isn't among them
same_left : (passed : ℕ → Bool) (i n : ℕ) → n ≤ i → left (λ k. passed k || nat_eq k i) n ≡ left passed n
unfolding left
same_left passed i zero from = refl
same_left passed i (suc n) from =
    (λ k. (if passed n || ne_eqb n i (λ e. let no : ⊥ = omega (arith, e, from) in no) k then 0 else 1) + same_left passed i n (omega (arith, from)) k)
    ∙ ap (λ b. (if b then 0 else 1) + left passed n) (or-false (passed n))

-- with one passed that is
fewer_left : (passed : ℕ → Bool) (i n : ℕ) → i < n → passed i ≡ false → left (λ k. passed k || nat_eq k i) n + 1 ≡ left passed n
unfolding left
fewer_left passed i zero below not_yet = let no : ⊥ = omega (arith, below) in absurd no
fewer_left passed i (suc n) below not_yet =
    elim (cases_eq n i) [
      | inl e ↦
          let here : (passed n || nat_eq n i) ≡ true = ap (λ b. passed n || b) (eq-eqb n i e) ∙ or-true (passed n) in
          let before : passed n ≡ false = ap passed e ∙ not_yet in
          let rest : left (λ k. passed k || nat_eq k i) n ≡ left passed n = same_left passed i n (omega (arith, e)) in
          (λ k. (if here k then 0 else 1) + rest k + 1) ∙ (let t : 0 + left passed n + 1 ≡ 1 + left passed n = omega arith in t) ∙ sym (ap (λ b. (if b then 0 else 1) + left passed n) before)
      | inr ne ↦
          let same : (passed n || nat_eq n i) ≡ passed n = ap (λ b. passed n || b) (ne_eqb n i ne) ∙ or-false (passed n) in
          let rest : left (λ k. passed k || nat_eq k i) n + 1 ≡ left passed n = fewer_left passed i n (omega (arith, below, ne)) not_yet in
          ap (λ b. (if b then 0 else 1) + left (λ k. passed k || nat_eq k i) n + 1) same ∙ (let t : (m : ℕ) → m + left (λ k. passed k || nat_eq k i) n + 1 ≡ m + left passed n = λ m. omega (arith, rest) in t (if passed n then 0 else 1))
    ]

-- ---- the greatest of a list

greatest_rises : {A : Type 0} (f g : A → ℕ) (xs : List A) (a b : ℕ) → a ≤ b → ((i : ℕ) (x : A) → slice_get xs i ≡ Some x → f x ≤ g x)
    → fold (λ h x. max h (f x)) a xs ≤ fold (λ h x. max h (g x)) b xs
greatest_rises f g [] a b from rises = from
greatest_rises f g (x ∷ xs) a b from rises =
    let first = rises 0 x refl in greatest_rises f g xs (max a (f x)) (max b (g x)) (omega (arith, from, first)) (λ i y at. rises (suc i) y at)

greatest_from : {A : Type 0} (f : A → ℕ) (xs : List A) (a : ℕ) → a ≤ fold (λ h x. max h (f x)) a xs
greatest_from f [] a = omega arith
greatest_from f (x ∷ xs) a = let e = greatest_from f xs (max a (f x)) in omega (arith, e)

greatest_has : {A : Type 0} (f : A → ℕ) (xs : List A) (a i : ℕ) (x : A) → slice_get xs i ≡ Some x → f x ≤ fold (λ h x. max h (f x)) a xs
greatest_has f [] a i x at = cc
greatest_has f (y ∷ ys) a zero x at = let e = greatest_from f ys (max a (f y)) in let same = ap f (same_Some y x at) in omega (arith, e, same)
greatest_has f (y ∷ ys) a (suc i) x at = greatest_has f ys (max a (f y)) i x at

module _ (rules : RuleFile) (accepted : IsAccepted rules) where
  -- ---- one reference

  not_round : (name : List ℕ) (s : StarDef) → star_named rules name ≡ Some s → Reaches rules s.name name → ⊥
  not_round name s named round =
      accepted.no_cycle
      s.statement
      (s, is_there rules name s named, refl, subst (λ (n : List ℕ). Reaches rules s.name n) (sym (its_name rules name s named)) round)

  is_known : (name : List ℕ) (s : StarDef) (i : ℕ) (r : List ℕ × List ValueExpr) → star_named rules name ≡ Some s → slice_get (references_of s) i ≡ Some r
      → (t : StarDef) × (star_named rules r.0 ≡ Some t)
  is_known name s i r named at = from (star_named rules r.0) refl
    where
      from : (o : Option StarDef) → star_named rules r.0 ≡ o → (t : StarDef) × (star_named rules r.0 ≡ Some t)
      from (Some t) is = (t, is)
      from None is =
          absurd
          (false≢true
          (sym ((names_are_known rules accepted.known).known (position_of rules name) s (stands rules name s named)) ∙ any_at (λ r. is_none (star_named rules r.0)) (references_of s) i r at (ap is_none is)))

  reaches : (name : List ℕ) (s : StarDef) (i : ℕ) (r : List ℕ × List ValueExpr) → star_named rules name ≡ Some s → slice_get (references_of s) i ≡ Some r → Reaches rules name r.0
  reaches name s i r named at =
      subst
      (λ (n : List ℕ). Reaches rules n r.0)
      (its_name rules name s named)
      (Reaches.directly s r.0 (own_name rules name s named) (any_map (same_numbers r.0) (λ x. x.0) (references_of s) ∙ any_at (λ x. same_numbers r.0 x.0) (references_of s) i r at (same_self r.0)))

  -- ---- the height of the STAR of a name

  one_deeper : (n : ℕ) (name : List ℕ) (s : StarDef) → star_named rules name ≡ Some s
      → height_within rules (suc n) name ≡ 1 + fold (λ h r. max h (height_within rules n r.0)) 0 (references_of s)
  unfolding height_within
  one_deeper n name s named = ap (λ o. 1 + option_map_or (λ t. fold (λ h r. max h (height_within rules n r.0)) 0 (references_of t)) o 0) named

  at_start : (name : List ℕ) → height_within rules zero name ≡ 0
  unfolding height_within
  at_start name = refl

  -- each of those that were passed reaches it
  abbrev Passed : (ℕ → Bool) → List ℕ → Type 0
  Passed passed name = (j : ℕ) (u : StarDef) → passed j ≡ true → slice_get rules.stars j ≡ Some u → Reaches rules u.name name

  passed_more : (passed : ℕ → Bool) (name : List ℕ) (s : StarDef) (i : ℕ) (r : List ℕ × List ValueExpr) → star_named rules name ≡ Some s
      → slice_get (references_of s) i ≡ Some r → Passed passed name → Passed (λ k. passed k || nat_eq k (position_of rules name)) r.0
  passed_more passed name s i r named at reach j u is at_u =
      elim (or_cases (passed j) (nat_eq j (position_of rules name)) is) [
        | inl before ↦ Reaches.further u.name name r.0 (reach j u before at_u) (reaches name s i r named at)
        | inr e ↦
            let same : s ≡ u = same_Some s u (sym (stands rules name s named) ∙ ap (slice_get rules.stars) (sym (eqb-true j (position_of rules name) e)) ∙ at_u) in
            subst (λ (n : List ℕ). Reaches rules n r.0) (sym (its_name rules name s named) ∙ ap (λ v. v.name) same) (reaches name s i r named at)
      ]

  not_passed : (passed : ℕ → Bool) (name : List ℕ) (s : StarDef) → star_named rules name ≡ Some s → Passed passed name → passed (position_of rules name) ≡ false
  not_passed passed name s named reach =
      fails (passed (position_of rules name)) (λ is. not_round name s named (reach (position_of rules name) s is (stands rules name s named)))

  one_fewer : (passed : ℕ → Bool) (name : List ℕ) (s : StarDef) → star_named rules name ≡ Some s → Passed passed name
      → left (λ k. passed k || nat_eq k (position_of rules name)) (length rules.stars) + 1 ≡ left passed (length rules.stars)
  one_fewer passed name s named reach =
      fewer_left
      passed
      (position_of rules name)
      (length rules.stars)
      (slice_get_within rules.stars (position_of rules name) s (stands rules name s named))
      (not_passed passed name s named reach)

  no_deeper : (m n : ℕ) (passed : ℕ → Bool) (name : List ℕ) (s : StarDef) → star_named rules name ≡ Some s → Passed passed name → left passed (length rules.stars) ≤ m
      → height_within rules n name ≤ height_within rules m name
  no_deeper zero n passed name s named reach few = let one = one_fewer passed name s named reach in let no : ⊥ = omega (arith, one, few) in absurd no
  no_deeper (suc m) zero passed name s named reach few = let e = at_start name in omega (arith, e)
  no_deeper (suc m) (suc n) passed name s named reach few =
      let one = one_fewer passed name s named reach in
      let fewer : left (λ k. passed k || nat_eq k (position_of rules name)) (length rules.stars) ≤ m = omega (arith, one, few) in
      let rises : (i : ℕ) (r : List ℕ × List ValueExpr) → slice_get (references_of s) i ≡ Some r → height_within rules n r.0 ≤ height_within rules m r.0 =
      λ i r at.
      let known = is_known name s i r named at in
      no_deeper m n (λ k. passed k || nat_eq k (position_of rules name)) r.0 known.0 known.1 (passed_more passed name s i r named at reach) fewer in
      let greatest = greatest_rises (λ r. height_within rules n r.0) (λ r. height_within rules m r.0) (references_of s) 0 0 (omega arith) rises in
      let deep = one_deeper n name s named in
      let less_deep = one_deeper m name s named in
      omega (arith, greatest, deep, less_deep)

  -- ---- one reference goes down

  lower : (name : List ℕ) (s : StarDef) (i : ℕ) (r : List ℕ × List ValueExpr) → star_named rules name ≡ Some s → slice_get (references_of s) i ≡ Some r
      → height_named rules r.0 < height_named rules name
  lower name s i r named at = from (length rules.stars) (one_fewer (λ k. false) name s named (λ j u is at_u. absurd (false≢true is))) (none_passed (length rules.stars))
    where
      from : (n : ℕ) → left (λ k. nat_eq k (position_of rules name)) (length rules.stars) + 1 ≡ left (λ k. false) (length rules.stars) → left (λ k. false) (length rules.stars) ≡ n
          → height_within rules n r.0 < height_within rules n name
      from zero one all = let no : ⊥ = omega (arith, one, all) in absurd no
      from (suc n) one all =
          let known = is_known name s i r named at in
          let deep = no_deeper n (suc n) (λ k. nat_eq k (position_of rules name)) r.0 known.0 known.1 (passed_more (λ k. false) name s i r named at (λ j u is at_u. absurd (false≢true is))) (omega (arith, one, all)) in
          let has = greatest_has (λ r. height_within rules n r.0) (references_of s) 0 i r at in
          let next = one_deeper n name s named in
          omega (arith, deep, has, next)

pub height_is_named : (rules : RuleFile) (name : List ℕ) (s : StarDef) → star_named rules name ≡ Some s → height_of rules s ≡ height_named rules name
height_is_named rules name s named = ap (height_named rules) (its_name rules name s named)

-- each reference of a STAR is to a lower one
all_lower : (rules : RuleFile) (name : List ℕ) (s : StarDef) → IsAccepted rules → star_named rules name ≡ Some s
    → list_all (λ r. nat_lt (height_named rules r.0) (height_of rules s)) (references_of s) ≡ true
all_lower rules name s accepted named =
    every_at
    (λ r. nat_lt (height_named rules r.0) (height_of rules s))
    (references_of s)
    (λ i r at.
    lt-ltb
    (height_named rules r.0)
    (height_of rules s)
    (subst (λ (h : ℕ). height_named rules r.0 < h) (sym (height_is_named rules name s named)) (lower rules accepted name s i r named at)))

pub bodies_refer_below : (rules : RuleFile) (name : List ℕ) (s : StarDef) (a : Alternative) → IsAccepted rules → star_named rules name ≡ Some s → Contains s.alternatives a
    → refers_below rules (height_of rules s) a.body ≡ true
bodies_refer_below rules name s a accepted named has =
    all_in_bodies
    (λ r. nat_lt (height_named rules r.0) (height_of rules s))
    s.alternatives
    has.0
    a
    (all_lower rules name s accepted named)
    (slice_get-get_or s.alternatives has.0 a has.1 ∙ ap Some has.2)

pub stars_refer_below : (rules : RuleFile) (s t : StarDef) → IsAccepted rules → star_named rules s.name ≡ Some s → occurs rules t.name (map (λ r. r.0) (references_of s)) ≡ true
    → height_of rules t < height_of rules s
stars_refer_below rules s t accepted own refers =
    let r =
    any_and_all
    (λ r. same_numbers t.name r.0)
    (λ r. nat_lt (height_named rules r.0) (height_of rules s))
    (references_of s)
    (sym (any_map (same_numbers t.name) (λ r. r.0) (references_of s)) ∙ refers)
    (all_lower rules s.name s accepted own) in
    subst (λ (name : List ℕ). height_named rules name < height_of rules s) (sym (same_are t.name r.0.0 r.1)) (ltb-true (height_named rules r.0.0) (height_of rules s) r.2)

pub heights_are_from_one : (rules : RuleFile) (s : StarDef) → IsAccepted rules → Contains rules.stars s → 1 ≤ height_of rules s
unfolding height_within
heights_are_from_one rules s accepted has = from (length rules.stars) (let below = has.1 in omega (arith, below))
  where
    from : (n : ℕ) → 0 < n → 1 ≤ height_within rules n s.name
    from zero some = omega (arith, some)
    from (suc n) some = omega arith
