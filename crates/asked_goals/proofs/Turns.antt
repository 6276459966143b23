-- One turn of a loop over a STAR's alternatives, and of one over the members of a range.
use Rattle.std.proofs.Common.{◌≡◌, ℕ, ◌+◌, ◌<◌, ◌≤◌, ◌⊎◌, inl, inr, List, [], ◌∷◌, ◌++◌, length, Option, Some, None, get_or, refl, ap, sym, ◌∙◌, subst, arith, append_assoc, append-nil}
use Rattle.std.specs.Prelude.{Contains, slice_get}
use Rattle.std.proofs.lemmas.Option.{slice_get_within, slice_get-get_or}
use Rattle.std.proofs.lemmas.List.Elements.{Contains-push_cases, Contains-append_right}
use Rattle.star_model.specs.Expected.{Call, root_call}
use Rattle.star_model.specs.Meaning.{member_at, members_of, numbers_of}
use Rattle.star_model.specs.Stars.{star_named}
use Rattle.star_model.specs.declared.plans.Goal.{Goal}
use Rattle.star_model.specs.declared.query.Query.{Query}
use Rattle.star_model.specs.declared.rules.Alternative.{Alternative}
use Rattle.star_model.specs.declared.rules.ForAll.{ForAll}
use Rattle.star_model.specs.declared.rules.StarDef.{StarDef}
use Rattle.star_model.specs.declared.rules.RuleFile.{RuleFile}
use Rattle.star_model.specs.declared.values.RuleValue.{RuleValue}
use Rattle.table_set_memo.specs.Memos.{GoalSet}
use Rattle.exchange.specs.Asking.{AsksFrom}
use Rattle.search_places.specs.Memos.{FirstMissing}
use Rattle.search_places.specs.Searching.{IsWithin}
use Rattle.search_places.specs.declared.search.Search.{Search}
use Rattle.search_places.proofs.Laws.{one_bound}
use Rattle.asked_goals.specs.Alternatives.{AsksOver, IsInside}
use Rattle.asked_goals.proofs.Alternatives.{asks_alternative, alternative_asks, no_star_asks, mapped_in, asks_member, member_asks}

some_is : {A : Type 0} (a b : A) → Some a ≡ Some b → a ≡ b
some_is a b h = cc

-- ---- items of lists

pub item_at : {A : Type 0} (xs : List A) (i : ℕ) (x : A) → i < length xs → x ≡ get_or xs i x → slice_get xs i ≡ Some x
item_at xs i x below at = slice_get-get_or xs i x below ∙ ap (λ u. Some u) (sym at)

-- what is next among what is left is one of all
pub next_among : {A : Type 0} (xs seen left rest : List A) (x : A) → xs ≡ seen ++ left → left ≡ x ∷ rest → Contains xs x
next_among xs seen left rest x all next =
    subst (λ ys. Contains ys x) (sym (all ∙ ap (λ l. seen ++ l) next)) (Contains-append_right seen (x ∷ rest) x (0, omega arith, refl))

pub seen_all : {A : Type 0} (xs seen left : List A) → xs ≡ seen ++ left → left ≡ [] → xs ≡ seen
seen_all xs seen left all none = all ∙ ap (λ l. seen ++ l) none ∙ append-nil seen

pub seen_more : {A : Type 0} (xs seen left rest : List A) (x : A) → xs ≡ seen ++ left → left ≡ x ∷ rest → xs ≡ (seen ++ x ∷ []) ++ rest
seen_more xs seen left rest x all next = all ∙ ap (λ l. seen ++ l) next ∙ sym (append_assoc seen (x ∷ []) rest)

module _ (q : Query) (rules : RuleFile) (memo : List GoalSet) where
  pub none_missing : (P : ℕ → ℕ → Type 0) (r : Option Goal) → r ≡ None → ((t k : ℕ) → P t k → ⊥) → FirstMissing memo P r
  none_missing P r is never = subst (λ (o : Option Goal). FirstMissing memo P o) (sym is) (λ h asked. absurd (never h.tables h.pushed asked))

  -- ---- the alternatives of a STAR

  module _ (star : List ℕ) (b : List RuleValue) where
    pub no_star : (r : Option Goal) → r ≡ None → None ≡ star_named rules star → FirstMissing memo (AsksFrom q rules (Call star b)) r
    no_star r is none = none_missing (AsksFrom q rules (Call star b)) r is (λ t k asked. no_star_asks q rules star b t k (sym none) asked)

    module _ (d : StarDef) (items : List Alternative) (named : Some d ≡ star_named rules star) (are : items ≡ d.alternatives) where
      pub in_alternative : (i : ℕ) (x : Alternative) → i < length items → x ≡ get_or items i x → slice_get d.alternatives i ≡ Some x
      in_alternative i x below at = ap (λ xs. slice_get xs i) (sym are) ∙ item_at items i x below at

      pub alternative_missing : (i : ℕ) (x : Alternative) (given : List ForAll) (h : Goal) → i < length items → x ≡ get_or items i x → given ≡ x.ranges → FirstMissing memo (AsksOver q rules x given b) (Some h)
          → FirstMissing memo (AsksFrom q rules (Call star b)) (Some h)
      alternative_missing i x given h below at are_given m =
          let asks = subst (λ (rs : List ForAll). AsksOver q rules x rs b h.tables h.pushed) are_given m.0 in
          (alternative_asks q rules star b d i x h.tables h.pushed (sym named) (in_alternative i x below at) asks, m.1)

      pub alternatives_held : (k : ℕ) → length items ≤ k → ((i : ℕ) (a : Alternative) → i < k → slice_get items i ≡ Some a → FirstMissing memo (AsksOver q rules a a.ranges b) None)
          → FirstMissing memo (AsksFrom q rules (Call star b)) None
      alternatives_held k whole held = λ h asked. (
          let (i, a, at, asks) = asks_alternative q rules star b d h.tables h.pushed (sym named) asked in
          let at_item = ap (λ xs. slice_get xs i) are ∙ at in
          let below = slice_get_within items i a at_item in
          held i a (omega (arith, whole, below)) at_item h asks)

    pub alternatives_more : (items : List Alternative) (k : ℕ) (x : Alternative) (given : List ForAll) → k < length items → x ≡ get_or items k x → given ≡ x.ranges
        → ((i : ℕ) (a : Alternative) → i < k → slice_get items i ≡ Some a → FirstMissing memo (AsksOver q rules a a.ranges b) None) → FirstMissing memo (AsksOver q rules x given b) None
        → (i : ℕ) (a : Alternative) → i < k + 1 → slice_get items i ≡ Some a → FirstMissing memo (AsksOver q rules a a.ranges b) None
    alternatives_more items k x given below is are_given held m i a less at = of (order less)
      where
        order : i < k + 1 → (i < k) ⊎ (i ≡ k)
        order less = grind arith

        of : (i < k) ⊎ (i ≡ k) → FirstMissing memo (AsksOver q rules a a.ranges b) None
        of (inl before) = held i a before at
        of (inr here) =
            let same : x ≡ a = some_is x a (sym (item_at items k x below is) ∙ ap (slice_get items) (sym here) ∙ at) in
            let own = subst (λ (rs : List ForAll). FirstMissing memo (AsksOver q rules x rs b) None) are_given m in
            subst (λ (u : Alternative). FirstMissing memo (AsksOver q rules u u.ranges b) None) same own

  -- ---- the members of a range

  module _ (a : Alternative) (f : ForAll) (fs : List ForAll) (c : List RuleValue) where
    pub member_missing : (v : RuleValue) (next : List RuleValue) (h : Goal) → Contains (members_of q c f.range) v → next ≡ c ++ v ∷ [] → FirstMissing memo (AsksOver q rules a fs next) (Some h)
        → FirstMissing memo (AsksOver q rules a (f ∷ fs) c) (Some h)
    member_missing v next h among is m = (member_asks q rules a f fs c v h.tables h.pushed among (subst (λ (b : List RuleValue). AsksOver q rules a fs b h.tables h.pushed) is m.0), m.1)

    pub members_held : (seen : List RuleValue) → members_of q c f.range ≡ seen → ((v : RuleValue) → Contains seen v → FirstMissing memo (AsksOver q rules a fs (c ++ v ∷ [])) None)
        → FirstMissing memo (AsksOver q rules a (f ∷ fs) c) None
    members_held seen all held = λ h asked. (
        let (v, among, asks) = asks_member q rules a f fs c h.tables h.pushed asked in
        held v (subst (λ (xs : List RuleValue). Contains xs v) all among) h asks)

    pub members_more : (seen : List RuleValue) (v : RuleValue) (next : List RuleValue) → next ≡ c ++ v ∷ [] → ((w : RuleValue) → Contains seen w → FirstMissing memo (AsksOver q rules a fs (c ++ w ∷ [])) None)
        → FirstMissing memo (AsksOver q rules a fs next) None → (w : RuleValue) → Contains (seen ++ v ∷ []) w → FirstMissing memo (AsksOver q rules a fs (c ++ w ∷ [])) None
    members_more seen v next is held m w among = of (Contains-push_cases seen v w among)
      where
        of : Contains seen w ⊎ (v ≡ w) → FirstMissing memo (AsksOver q rules a fs (c ++ w ∷ [])) None
        of (inl before) = held w before
        of (inr same) = subst (λ (b : List RuleValue). FirstMissing memo (AsksOver q rules a fs b) None) (is ∙ ap (λ u. c ++ u ∷ []) same) m

-- the next name is bound to a member
pub member_inside : (s : Search) (star : List ℕ) (a : Alternative) (f : ForAll) (fs : List ForAll) (c : List RuleValue) → IsInside s star a (f ∷ fs) c → (v : RuleValue) (next : List RuleValue)
    → Contains (members_of s.query.now c f.range) v → next ≡ c ++ v ∷ [] → IsInside s star a fs next
member_inside s star a f fs c inside v next among is =
    let (n, picked, w) = inside in
    let (m, number, value) = mapped_in (member_at f.range) (numbers_of s.query.now c f.range) v among in (
      n,
      picked ++ (m + 1) ∷ [],
      subst (λ (b : List RuleValue). IsWithin s star n a fs (picked ++ (m + 1) ∷ []) b) (ap (λ u. c ++ u ∷ []) value ∙ sym is) (one_bound s star n a f fs picked c w m number),
    )

-- ---- the splits of a goal

pub splits_more : (q : Query) (rules : RuleFile) (memo : List GoalSet) (s j : ℕ) (seen : List (ℕ × ℕ)) (p : ℕ × ℕ)
    → ((x : ℕ × ℕ) → Contains {X = ℕ × ℕ} seen x → FirstMissing memo (AsksFrom q rules (root_call s j (Some x))) None) → FirstMissing memo (AsksFrom q rules (root_call s j (Some p))) None
    → (x : ℕ × ℕ) → Contains {X = ℕ × ℕ} (seen ++ p ∷ []) x → FirstMissing memo (AsksFrom q rules (root_call s j (Some x))) None
splits_more q rules memo s j seen p held m x among = of (Contains-push_cases {X = ℕ × ℕ} seen p x among)
  where
    of : Contains {X = ℕ × ℕ} seen x ⊎ (p ≡ x) → FirstMissing memo (AsksFrom q rules (root_call s j (Some x))) None
    of (inl before) = held x before
    of (inr same) = subst (λ (y : ℕ × ℕ). FirstMissing memo (AsksFrom q rules (root_call s j (Some y))) None) same m
