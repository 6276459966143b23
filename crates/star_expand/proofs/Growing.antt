-- How a memo grows, and what stays so while it does.
use Rattle.std.proofs.Common.{◌≡◌, ℕ, ◌<◌, false, nat_eq, ◌⊎◌, inl, inr, List, [], ◌∷◌, ◌++◌, Option, Some, None, IsSome, Result, Ok, Err, OnOk, OnErr, Bor, refl, ap, sym, ◌∙◌, subst, arith, length, length-append, append_assoc, append-nil}
use Rattle.std.specs.Prelude.{Contains, is_some}
use Rattle.std.specs.Option.{option_copied}
use Rattle.std.proofs.lemmas.Bool.{true≢false, ne_eqb}
use Rattle.std.proofs.lemmas.List.Elements.{Contains-append_cases, Contains-append_right, Contains-push_cases}
use Rattle.star_model.specs.AskedGoals.{Asks}
use Rattle.star_model.specs.Expected.{ForGoal, root_call}
use Rattle.star_model.specs.Sets.{size}
use Rattle.star_model.specs.declared.plans.Goal.{Goal}
use Rattle.star_model.specs.declared.query.Query.{Query}
use Rattle.star_model.specs.declared.rules.RuleFile.{RuleFile}
use Rattle.lolepop.specs.Derived.{DerivedPlan}
use Rattle.table_set_memo.specs.Memos.{GoalSet, plans_at, IsHeld}
use Rattle.table_set_memo.proofs.Laws.{plans_at-push_old, plans_at-push_new, plans_at-push_cases}
use Rattle.exchange.specs.Asking.{AsksFrom}
use Rattle.exchange.specs.Places.{IsBestOf}
use Rattle.search_places.specs.Memos.{HoldsFrontiers, HoldsAsked, IsClosed, FirstMissing}
use Rattle.star_expand.specs.Expanding.{AskedFrom, Grows}

nothing_in : {X : Type 0} (x : X) → Contains [] x → ⊥
nothing_in x h = absurd (omega (arith, h.1))

module _ (q : Query) (rules : RuleFile) where
  -- ---- growing

  pub Grows-none : (g : Goal) (memo : List GoalSet) → Grows q rules g memo memo
  Grows-none g memo = record { added = []; behind = sym (append-nil memo); asked = λ s h. absurd (nothing_in s h) }

  -- twice
  pub Grows-then : (g : Goal) (a b c : List GoalSet) → Grows q rules g a b → Grows q rules g b c → Grows q rules g a c
  Grows-then g a b c first second = record {
    added = first.added ++ second.added;
    behind = second.behind ∙ ap (λ m. m ++ second.added) first.behind ∙ append_assoc a first.added second.added;
    asked = λ s h. elim (Contains-append_cases first.added second.added s h) [ inl early ↦ first.asked s early | inr late ↦ second.asked s late ];
  }

  -- a goal for which this one asks was expanded
  pub Grows-through : (g h : Goal) (a b : List GoalSet) → Asks q rules g.tables g.pushed h.tables h.pushed → Grows q rules h a b → Grows q rules g a b
  Grows-through g h a b asks grows = record {
    added = grows.added;
    behind = grows.behind;
    asked = λ s among. AskedFrom.through g.tables g.pushed h.tables h.pushed s.0.tables s.0.pushed asks (grows.asked s among);
  }

  -- the goal itself was put
  pub Grows-put : (g : Goal) (plans : List DerivedPlan) (a b : List GoalSet) → b ≡ a ++ (g, plans) ∷ [] → Grows q rules g a b
  Grows-put g plans a b put = record { added = (g, plans) ∷ []; behind = put; asked = λ s among. only s (Contains-push_cases [] (g, plans) s among) }
    where
      only : (s : GoalSet) → Contains [] s ⊎ ((g, plans) ≡ s) → AskedFrom q rules g.tables g.pushed s.0.tables s.0.pushed
      only s (inl none) = absurd (nothing_in s none)
      only s (inr same) = subst (λ (u : GoalSet). AskedFrom q rules g.tables g.pushed u.0.tables u.0.pushed) same (AskedFrom.itself g.tables g.pushed)

  -- ---- what stays

  pub some_plans : (memo : List GoalSet) (h : Goal) → IsHeld memo h → (plans : List DerivedPlan) × (plans_at memo h ≡ Some plans)
  some_plans memo h held = of (plans_at memo h) refl held
    where
      of : (o : Option (List DerivedPlan)) → plans_at memo h ≡ o → IsSome o → (plans : List DerivedPlan) × (plans_at memo h ≡ Some plans)
      of None is held = absurd (true≢false (sym held))
      of (Some plans) is held = (plans, is)

  held_by : (memo : List GoalSet) (h : Goal) (plans : List DerivedPlan) → plans_at memo h ≡ Some plans → IsHeld memo h
  held_by memo h plans is = subst (λ (o : Option (List DerivedPlan)). IsSome o) (sym is) refl

  pub held_grown : (g h : Goal) (old new : List GoalSet) → Grows q rules g old new → IsHeld old h → IsHeld new h
  held_grown g h old new grows held =
      let (plans, is) = some_plans old h held in
      held_by new h plans (ap (λ m. plans_at m h) grows.behind ∙ plans_at-push_old old grows.added h plans is)

  -- a memo with a goal that wasn't held is longer
  pub grown : (g h : Goal) (old new : List GoalSet) → Grows q rules g old new → plans_at old h ≡ None → IsHeld new h → length old < length new
  grown g h old new grows missing held = go grows.added grows.behind
    where
      go : (added : List GoalSet) → new ≡ old ++ added → length old < length new
      go [] is = absurd (let same : new ≡ old = is ∙ append-nil old in true≢false (sym held ∙ ap is_some (ap (λ m. plans_at m h) same ∙ missing)))
      go (x ∷ xs) is = let l = ap length is in let m = length-append old (x ∷ xs) in omega (arith, l, m)

  -- ---- a put

  module _ (g : Goal) (plans : List DerivedPlan) (old new : List GoalSet) (none : plans_at old g ≡ None) (put : new ≡ old ++ (g, plans) ∷ []) where
    pub put_is_held : IsHeld new g
    put_is_held = held_by new g plans (ap (λ m. plans_at m g) put ∙ plans_at-push_new old g plans none)

    pub frontiers_put : HoldsFrontiers q rules old → IsBestOf q rules (ForGoal g.tables g.pushed) plans → HoldsFrontiers q rules new
    unfolding HoldsFrontiers
    frontiers_put frontiers best = λ h found is. of h found (plans_at-push_cases old g h plans found (ap (λ m. plans_at m h) (sym put) ∙ is))
      where
        of : (h : Goal) (found : List DerivedPlan) → (plans_at old h ≡ Some found) ⊎ ((g ≡ h) × (plans ≡ found)) → IsBestOf q rules (ForGoal h.tables h.pushed) found
        of h found (inl before) = frontiers h found before
        of h found (inr here) =
            subst (λ (xs : List DerivedPlan). IsBestOf q rules (ForGoal h.tables h.pushed) xs) here.1 (subst (λ (k : Goal). IsBestOf q rules (ForGoal k.tables k.pushed) plans) here.0 best)

    pub closed_put : IsClosed q rules old → HoldsAsked q rules old g → IsClosed q rules new
    unfolding IsClosed HoldsAsked
    closed_put closed asked = λ h held k asks. later k (before h held k asks)
      where
        later : (k : Goal) → IsHeld old k → IsHeld new k
        later k held = let (found, is) = some_plans old k held in held_by new k found (ap (λ m. plans_at m k) put ∙ plans_at-push_old old ((g, plans) ∷ []) k found is)

        of : (h : Goal) (found : List DerivedPlan) → (plans_at old h ≡ Some found) ⊎ ((g ≡ h) × (plans ≡ found)) → (k : Goal) → Asks q rules h.tables h.pushed k.tables k.pushed → IsHeld old k
        of h found (inl is) k asks = closed h (held_by old h found is) k asks
        of h found (inr here) k asks = asked k (subst (λ (u : Goal). Asks q rules u.tables u.pushed k.tables k.pushed) (sym here.0) asks)

        before : (h : Goal) → IsHeld new h → (k : Goal) → Asks q rules h.tables h.pushed k.tables k.pushed → IsHeld old k
        before h held k asks =
            let (found, is) = some_plans new h held in
            of h found (plans_at-push_cases old g h plans found (ap (λ m. plans_at m h) (sym put) ∙ is)) k asks

  -- ---- after a put, that may have found no memory

  module _ {A E : Type 0} (g : Goal) (plans : List DerivedPlan) (old new : List GoalSet) (none : plans_at old g ≡ None) where
    pub frontiers_after : (r : Result A E) → OnOk r (new ≡ old ++ (g, plans) ∷ []) → OnErr r (new ≡ old) → HoldsFrontiers q rules old → IsBestOf q rules (ForGoal g.tables g.pushed) plans → HoldsFrontiers q rules new
    frontiers_after (Ok a) put same frontiers best = frontiers_put g plans old new none put frontiers best
    frontiers_after (Err e) put same frontiers best = subst (λ (m : List GoalSet). HoldsFrontiers q rules m) (sym same) frontiers

    pub closed_after : (r : Result A E) → OnOk r (new ≡ old ++ (g, plans) ∷ []) → OnErr r (new ≡ old) → IsClosed q rules old → HoldsAsked q rules old g → IsClosed q rules new
    closed_after (Ok a) put same closed asked = closed_put g plans old new none put closed asked
    closed_after (Err e) put same closed asked = subst (λ (m : List GoalSet). IsClosed q rules m) (sym same) closed

    pub Grows-after : (r : Result A E) → OnOk r (new ≡ old ++ (g, plans) ∷ []) → OnErr r (new ≡ old) → Grows q rules g old new
    Grows-after (Ok a) put same = Grows-put g plans old new put
    Grows-after (Err e) put same = subst (λ (m : List GoalSet). Grows q rules g old m) (sym same) (Grows-none g old)

    pub held_after : (r : Result A E) → OnOk r (new ≡ old ++ (g, plans) ∷ []) → OnOk r (IsHeld new g)
    held_after (Ok a) put = put_is_held g plans old new none put
    held_after (Err e) put = tt

  -- ---- the splits of a goal

  -- one split more was filled, and what the others ask for is still held
  pub splits_filled : (g : Goal) (old new : List GoalSet) (seen : List (ℕ × ℕ)) (p : ℕ × ℕ)
      → ((x : ℕ × ℕ) → Contains {X = ℕ × ℕ} seen x → FirstMissing old (AsksFrom q rules (root_call g.tables g.pushed (Some x))) None) → Grows q rules g old new
      → FirstMissing new (AsksFrom q rules (root_call g.tables g.pushed (Some p))) None → (x : ℕ × ℕ) → Contains {X = ℕ × ℕ} (seen ++ p ∷ []) x
      → FirstMissing new (AsksFrom q rules (root_call g.tables g.pushed (Some x))) None
  splits_filled g old new seen p held grows m x among = of (Contains-push_cases {X = ℕ × ℕ} seen p x among)
    where
      of : Contains {X = ℕ × ℕ} seen x ⊎ (p ≡ x) → FirstMissing new (AsksFrom q rules (root_call g.tables g.pushed (Some x))) None
      of (inl before) = λ h asks. held_grown g h old new grows (held x before h asks)
      of (inr same) = subst (λ (y : ℕ × ℕ). FirstMissing new (AsksFrom q rules (root_call g.tables g.pushed (Some y))) None) same m

-- ---- lists

pub next_among : {A : Type 0} (xs seen left rest : List A) (x : A) → xs ≡ seen ++ left → left ≡ x ∷ rest → Contains xs x
next_among xs seen left rest x all next =
    subst (λ ys. Contains ys x) (sym (all ∙ ap (λ l. seen ++ l) next)) (Contains-append_right seen (x ∷ rest) x (0, omega arith, refl))

pub seen_all : {A : Type 0} (xs seen left : List A) → xs ≡ seen ++ left → left ≡ [] → xs ≡ seen
seen_all xs seen left all none = all ∙ ap (λ l. seen ++ l) none ∙ append-nil seen

pub seen_more : {A : Type 0} (xs seen left rest : List A) (x : A) → xs ≡ seen ++ left → left ≡ x ∷ rest → xs ≡ (seen ++ x ∷ []) ++ rest
seen_more xs seen left rest x all next = all ∙ ap (λ l. seen ++ l) next ∙ sym (append_assoc seen (x ∷ []) rest)

pub copied_none : {X : Type 0} (r : Option (Bor X)) → is_some r ≡ false → option_copied r ≡ None
copied_none None h = refl
copied_none (Some x) h = absurd (true≢false h)

pub several : (s n : ℕ) → n ≡ size s → (n ≡ 1 → ⊥) → nat_eq (size s) 1 ≡ false
several s n is not_one = ne_eqb (size s) 1 (λ e. not_one (is ∙ e))
