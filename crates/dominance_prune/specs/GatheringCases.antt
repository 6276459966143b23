-- How sets gather: nothing, one thing after another, what many sources make; and what a frontier has.
-- (No clause of a function can say so of every property.)
use Rattle.std.specs.Prelude.{◌≡◌, ℕ, ◌<◌, ◌++◌, List, [], ◌∷◌, Bool, true, false, Contains, ◌⊎◌}
use Rattle.std.proofs.Common.{sym, ap, subst, inl, inr, ◌∙◌, get_or, arith, map, append_assoc, Bor}
use Rattle.std.proofs.lemmas.List.{get_or_default, map-append, append-nil}
use Rattle.std.proofs.lemmas.List.Elements.{Contains-push, Contains-push_cases, Contains-append_left}
use Rattle.dominance_prune.specs.Antichains.{IsAntichain}
use Rattle.dominance_prune.specs.Gathering.{HasAbove, Gathers, From, Passes, IsFrontier}

pub nothing_in : {X : Type 0} (x : X) → Contains [] x → ⊥
nothing_in x h = absurd (omega (arith, h.1))

-- a member above x, by its name
pub member_above : {T : Type 0} (outranks : T → T → Bool) (members : List T) (x : T) → HasAbove outranks members x → (m : T) × Contains members m × (outranks m x ≡ true)
member_above outranks members x (k, m, below, at, over) = (m, (k, below, at), over)

pub above_from : {T : Type 0} (outranks : T → T → Bool) (members : List T) (x m : T) → Contains members m → outranks m x ≡ true → HasAbove outranks members x
above_from outranks members x m (k, below, at) over = (k, m, below, at, over)

-- in a set of which none outranks another, what outranks a member is that member
pub above_same : {T : Type 0} (outranks : T → T → Bool) (members : List T) → IsAntichain outranks members → (m e : T) → Contains members m → Contains members e
    → outranks m e ≡ true → m ≡ e
above_same {T} outranks xs apart m e (i, in_i, at_i) (j, in_j, at_j) over = elim (order i j) [
  | inl (inl less) ↦ absurd (let f = (apart i j m less in_j).0 in let d : get_or xs j m ≡ e = get_or_default xs j m e in_j ∙ at_j in clash f at_i d)
  | inl (inr more) ↦ absurd (let f = (apart j i e more in_i).1 in let d : get_or xs i e ≡ m = get_or_default xs i e m in_i ∙ at_i in clash f d at_j)
  | inr same ↦ (let P : ℕ → Type 0 = λ k. get_or xs k m ≡ m in let a : get_or xs j m ≡ m = subst P same at_i in sym a ∙ (get_or_default xs j m e in_j ∙ at_j))
]
  where
    order : (i j : ℕ) → ((i < j) ⊎ (j < i)) ⊎ (i ≡ j)
    order i j = grind arith

    clash : {x y : T} → outranks x y ≡ false → x ≡ m → y ≡ e → ⊥
    clash f p q = absurd (cc)

module _ {T : Type 0} (outranks : T → T → Bool) where
  pub Gathers-none : (old : List T) → Gathers outranks old old (λ _. ⊥)
  Gathers-none old = record { covers = λ x h. absurd h; keeps = λ x h. h; from = λ m h. inl h }

  pub Gathers-then : (Q R : T → Type 0) (a b c : List T) → Gathers outranks a b Q → Gathers outranks b c R → Gathers outranks a c (λ x. Q x ⊎ R x)
  Gathers-then Q R a b c g h = record {
    covers = λ x. elim [ inl q ↦ h.keeps x (g.covers x q) | inr r ↦ h.covers x r ];
    keeps = λ x k. h.keeps x (g.keeps x k);
    from = λ m k. elim (h.from m k) [ inl k ↦ elim (g.from m k) [ inl k ↦ inl k | inr q ↦ inr (inl q) ] | inr r ↦ inr (inr r) ];
  }

  -- two properties that agree
  pub Gathers-same : (Q R : T → Type 0) (a b : List T) → ((x : T) → Q x → R x) → ((x : T) → R x → Q x) → Gathers outranks a b Q → Gathers outranks a b R
  Gathers-same Q R a b to back g = record {
    covers = λ x r. g.covers x (back x r);
    keeps = g.keeps;
    from = λ m k. elim (g.from m k) [ inl k ↦ inl k | inr q ↦ inr (to m q) ];
  }

  -- nothing has Q
  pub Gathers-nothing : (Q : T → Type 0) (a : List T) → ((x : T) → Q x → ⊥) → Gathers outranks a a Q
  Gathers-nothing Q a never = Gathers-same (λ _. ⊥) Q a a (λ x h. absurd h) never (Gathers-none a)

  -- all that has Q is outranked by members already
  pub Gathers-covered : (Q : T → Type 0) (a : List T) → ((x : T) → Q x → HasAbove outranks a x) → Gathers outranks a a Q
  Gathers-covered Q a covered = record { covers = covered; keeps = λ x h. h; from = λ m h. inl h }

  pub Gathers-no_source : {S : Type 0} (P : S → T → Type 0) (a : List T) → Gathers outranks a a (From [] P)
  Gathers-no_source P a = Gathers-nothing (From [] P) a (λ x made. nothing_in made.0 made.1)

  -- one source more
  pub Gathers-more : {S : Type 0} (P : S → T → Type 0) (sources : List S) (s : S) (a b c : List T) → Gathers outranks a b (From sources P) → Gathers outranks b c (P s)
      → Gathers outranks a c (From (sources ++ s ∷ []) P)
  Gathers-more {S} P sources s a b c g h =
      Gathers-same (λ x. From sources P x ⊎ P s x) (From (sources ++ s ∷ []) P) a c
      (λ x. elim [ inl q ↦ (q.0, Contains-append_left sources (s ∷ []) q.0 q.1, q.2) | inr p ↦ (s, Contains-push sources s, p) ])
      (λ x q. split x q.0 q.2 (Contains-push_cases sources s q.0 q.1))
      (Gathers-then (From sources P) (P s) a b c g h)
    where
      split : (x : T) (r : S) → P r x → Contains sources r ⊎ (s ≡ r) → From sources P x ⊎ P s x
      split x r p (inl among) = inl (r, among, p)
      split x r p (inr same) = let Q : S → Type 0 = λ u. P u x in inr (subst Q (sym same) p)

  -- ---- loops over the members of a set

  pub Passes-none : {S : Type 0} (members left : List S) (a : List T) (P : S → T → Type 0) → left ≡ members → Passes outranks members [] left a a P
  Passes-none members left a P same = record { all = sym same; gathered = Gathers-no_source P a }

  pub Passes-more : {S : Type 0} (members : List S) (yielded : List (Bor S)) (item : Bor S) (left rest : List S) (a b c : List T) (P : S → T → Type 0) → left ≡ item.now ∷ rest
      → Passes outranks members (map (λ r. r.now) yielded) left a b P → Gathers outranks b c (P item.now) → Passes outranks members (map (λ r. r.now) (yielded ++ item ∷ [])) rest a c P
  Passes-more members yielded item left rest a b c P next p g = record {
    all = rw (map-append, append_assoc) (rw (← next) p.all);
    gathered = rw map-append (Gathers-more P (map (λ r. r.now) yielded) item.now a b c p.gathered g);
  }

  pub Passes-all : {S : Type 0} (members seen left : List S) (a b : List T) (P : S → T → Type 0) → left ≡ [] → Passes outranks members seen left a b P → Gathers outranks a b (From members P)
  Passes-all {S} members seen left a b P none p =
      let same : members ≡ seen = p.all ∙ ap (λ l. seen ++ l) none ∙ append-nil seen in
      let Q : List S → Type 0 = λ xs. Gathers outranks a b (From xs P) in
      subst Q (sym same) p.gathered

  module _ (transitive : (x y z : T) → outranks x y ≡ true → outranks y z ≡ true → outranks x z ≡ true) where
    -- what was offered stands for all of V, where it has V and some of it outranks each that has V
    pub Gathers-represented : (Q V : T → Type 0) (a b : List T) → ((x : T) → Q x → V x) → ((x : T) → V x → (y : T) × Q y × (outranks y x ≡ true))
        → Gathers outranks a b Q → Gathers outranks a b V
    Gathers-represented Q V a b within reaches g = record {
      covers = λ x v. (let (y, q, over) = reaches x v in let (m, among, above) = member_above outranks b y (g.covers y q) in
          above_from outranks b x m among (transitive m y x above over));
      keeps = g.keeps;
      from = λ m k. elim (g.from m k) [ inl k ↦ inl k | inr q ↦ inr (within m q) ];
    }

    -- a member is outranked by what has Q only where the two outrank each other
    pub IsFrontier-best : (Q : T → Type 0) (members : List T) → IsFrontier outranks Q members → (x m : T) → Q x → Contains members m → outranks x m ≡ true → outranks m x ≡ true
    IsFrontier-best Q members frontier x m q among over =
        let (e, there, above) = member_above outranks members x (frontier.gathered.covers x q) in
        let same : e ≡ m = above_same outranks members frontier.apart e m there among (transitive e x m above over) in
        let P : T → Type 0 = λ u. outranks u x ≡ true in subst P same above

  pub IsFrontier-has : (Q : T → Type 0) (members : List T) → IsFrontier outranks Q members → (m : T) → Contains members m → Q m
  IsFrontier-has Q members frontier m among = elim (frontier.gathered.from m among) [ inl none ↦ absurd (nothing_in m none) | inr q ↦ q ]

  pub IsFrontier-none : (Q : T → Type 0) → IsFrontier outranks Q [] → (x : T) → Q x → ⊥
  IsFrontier-none Q frontier x q = let (m, among, over) = member_above outranks [] x (frontier.gathered.covers x q) in nothing_in m among
