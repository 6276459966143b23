-- A call of a STAR asks for what its alternatives ask for, and an alternative with a name that isn't bound yet, for what it asks with each
-- member of the name's range.
use Prim.Native.Nat.{zero, suc}
use Rattle.std.proofs.Common.{◌≡◌, ℕ, ◌+◌, ◌-◌, Bool, true, false, not, ◌&&◌, nat_eq, List, [], ◌∷◌, ◌++◌, map, Option, Some, None, refl, ap, sym, ◌∙◌, subst, arith, if◌then◌else◌}
use Rattle.std.specs.Prelude.{Contains, option_and_then, slice_get}
use Rattle.std.specs.List.{list_any}
use Rattle.std.proofs.lemmas.Bool.{and_parts, eqb-true, ne_eqb}
use Rattle.std.proofs.lemmas.List.Folds.{Any-from_list_any}
use Rattle.star_model.specs.Expected.{Expected, Call, Expression, bound, meets, body_of}
use Rattle.star_model.specs.Meaning.{numbers_of, member_at, members_of}
use Rattle.star_model.specs.Stars.{star_named, numbered, alternative_of}
use Rattle.star_model.specs.declared.query.Query.{Query}
use Rattle.star_model.specs.declared.rules.Alternative.{Alternative}
use Rattle.star_model.specs.declared.rules.ForAll.{ForAll}
use Rattle.star_model.specs.declared.rules.StarDef.{StarDef}
use Rattle.star_model.specs.declared.rules.RuleFile.{RuleFile}
use Rattle.star_model.specs.declared.values.RuleValue.{RuleValue}
use Rattle.exchange.specs.Asking.{AsksFrom}
use Rattle.exchange.proofs.Laws.{asks_parts, bound_step}
use Rattle.asked_goals.specs.Alternatives.{AsksOver}

bind : {A B : Type 0} (f : A → Option B) (o : Option A) (b : B) → option_and_then f o ≡ Some b → (a : A) × (o ≡ Some a) × (f a ≡ Some b)
bind f None b h = cc
bind f (Some a) b h = (a, refl, h)

chosen : {A : Type 0} (b : Bool) (o : Option A) (y : A) → (if b then o else None) ≡ Some y → (b ≡ true) × (o ≡ Some y)
chosen true o y h = (refl, h)
chosen false o y h = cc

some_is : {A : Type 0} (a b : A) → Some a ≡ Some b → a ≡ b
some_is a b h = cc

none_is : {A : Type 0} (e : A) → None ≡ Some e → ⊥
none_is e h = cc

any_member : (ns : List ℕ) (n : ℕ) → list_any (nat_eq n) ns ≡ true → Contains ns n
any_member ns n h =
    let (k, m, below, at, is) = Any-from_list_any (nat_eq n) ns h in subst (λ (u : ℕ). Contains ns u) (sym (eqb-true n m is)) (k, below, at)

-- ---- members of mapped lists

Contains-head : {X : Type 0} (y : X) (ys : List X) → Contains (y ∷ ys) y
Contains-head y ys = (0, omega arith, refl)

Contains-tail : {X : Type 0} (y : X) (ys : List X) (x : X) → Contains ys x → Contains (y ∷ ys) x
Contains-tail y ys x (k, below, at) = (suc k, omega (arith, below), at)

pub in_mapped : {X Y : Type 0} (g : X → Y) (xs : List X) (x : X) → Contains xs x → Contains (map g xs) (g x)
in_mapped g [] x (k, below, at) = absurd (omega (arith, below))
in_mapped {X} {Y} g (y ∷ ys) x (zero, below, at) = subst (λ (u : X). Contains (g y ∷ map g ys) (g u)) at (Contains-head (g y) (map g ys))
in_mapped g (y ∷ ys) x (suc k, below, at) = Contains-tail (g y) (map g ys) (g x) (in_mapped g ys x (k, omega (arith, below), at))

pub mapped_in : {X Y : Type 0} (g : X → Y) (xs : List X) (v : Y) → Contains (map g xs) v → (x : X) × Contains xs x × (g x ≡ v)
mapped_in g [] v (k, below, at) = absurd (omega (arith, below))
mapped_in g (y ∷ ys) v (zero, below, at) = (y, Contains-head y ys, at)
mapped_in g (y ∷ ys) v (suc k, below, at) = let (x, among, is) = mapped_in g ys v (k, omega (arith, below), at) in (x, Contains-tail y ys x among, is)

module _ (q : Query) (rules : RuleFile) where
  -- ---- the alternatives of a STAR

  at_number : (d : StarDef) (n : ℕ) (a : Alternative) → numbered d.alternatives n ≡ Some a → slice_get d.alternatives (n - 1) ≡ Some a
  at_number d n a h = pick (nat_eq n 0) h
    where
      pick : (b : Bool) → (if b then None else slice_get d.alternatives (n - 1)) ≡ Some a → slice_get d.alternatives (n - 1) ≡ Some a
      pick true h = cc
      pick false h = h

  pub asks_alternative : (star : List ℕ) (b : List RuleValue) (d : StarDef) (t k : ℕ) → star_named rules star ≡ Some d → AsksFrom q rules (Call star b) t k
      → (i : ℕ) × (a : Alternative) × (slice_get d.alternatives i ≡ Some a) × AsksOver q rules a a.ranges b t k
  asks_alternative star b d t k named asked =
      let (n, picks, y, is, asks) = (asks_parts q rules (Call star b) t k).0 asked in
      let (a, there, body) = bind (λ (a : Alternative). option_and_then (λ (c : List RuleValue). if meets q c a.condition then Some (Expression a.body c) else None) (bound q a.ranges picks b))
      (alternative_of rules star n) y is in
      let (c, values, chosen_is) = bind (λ (c : List RuleValue). if meets q c a.condition then Some (Expression a.body c) else None) (bound q a.ranges picks b) y body in
      let (ok, same) = chosen (meets q c a.condition) (Some (Expression a.body c)) y chosen_is in
      let at = at_number d n a (ap (option_and_then (λ (s : StarDef). numbered s.alternatives n)) (sym named) ∙ there) in
      (n - 1, a, at, (picks, c, values, ok, subst (λ (x : Expected). AsksFrom q rules x t k) (sym (some_is (Expression a.body c) y same)) asks))

  pub alternative_asks : (star : List ℕ) (b : List RuleValue) (d : StarDef) (i : ℕ) (a : Alternative) (t k : ℕ) → star_named rules star ≡ Some d → slice_get d.alternatives i ≡ Some a
      → AsksOver q rules a a.ranges b t k → AsksFrom q rules (Call star b) t k
  alternative_asks star b d i a t k named at (more, e, values, ok, asks) =
      let back : i + 1 - 1 ≡ i = omega arith in
      let there : alternative_of rules star (i + 1) ≡ Some a =
      ap (option_and_then (λ (s : StarDef). numbered s.alternatives (i + 1))) named
      ∙ ap (λ (t : Bool). if t then None else slice_get d.alternatives (i + 1 - 1)) (ne_eqb (i + 1) 0 (λ h. let no : ⊥ = omega (arith, h) in no))
      ∙ ap (slice_get d.alternatives) back ∙ at in
      let is : body_of q rules star b (i + 1) more ≡ Some (Expression a.body e) =
      ap (option_and_then (λ (a : Alternative). option_and_then (λ (c : List RuleValue). if meets q c a.condition then Some (Expression a.body c) else None) (bound q a.ranges more b))) there
      ∙ ap (option_and_then (λ (c : List RuleValue). if meets q c a.condition then Some (Expression a.body c) else None)) values
      ∙ ap (λ (t : Bool). if t then Some (Expression a.body e) else None) ok in
      (asks_parts q rules (Call star b) t k).1 (i + 1, more, Expression a.body e, is, asks)

  -- a STAR that isn't there asks for nothing
  pub no_star_asks : (star : List ℕ) (b : List RuleValue) (t k : ℕ) → star_named rules star ≡ None → AsksFrom q rules (Call star b) t k → ⊥
  no_star_asks star b t k none asked =
      let (n, picks, y, is, asks) = (asks_parts q rules (Call star b) t k).0 asked in
      let (a, there, body) = bind (λ (a : Alternative). option_and_then (λ (c : List RuleValue). if meets q c a.condition then Some (Expression a.body c) else None) (bound q a.ranges picks b))
      (alternative_of rules star n) y is in
      none_is a (ap (option_and_then (λ (s : StarDef). numbered s.alternatives n)) (sym none) ∙ there)

  -- ---- for-all names, one by one

  module _ (a : Alternative) where
    -- where none is left
    pub asks_body : (c : List RuleValue) (t k : ℕ) → AsksOver q rules a [] c t k → (meets q c a.condition ≡ true) × AsksFrom q rules (Expression a.body c) t k
    asks_body c t k ([], e, values, ok, asks) =
        let same : c ≡ e = some_is c e values in
        (ap (λ b. meets q b a.condition) same ∙ ok, subst (λ (b : List RuleValue). AsksFrom q rules (Expression a.body b) t k) (sym same) asks)
    asks_body c t k (n ∷ ns, e, values, ok, asks) = absurd (none_is e values)

    pub body_asks : (c : List RuleValue) (t k : ℕ) → meets q c a.condition ≡ true → AsksFrom q rules (Expression a.body c) t k → AsksOver q rules a [] c t k
    body_asks c t k ok asks = ([], c, refl, ok, asks)

    -- where one is next
    module _ (f : ForAll) (fs : List ForAll) where
      pub asks_member : (c : List RuleValue) (t k : ℕ) → AsksOver q rules a (f ∷ fs) c t k
          → (v : RuleValue) × Contains (members_of q c f.range) v × AsksOver q rules a fs (c ++ v ∷ []) t k
      asks_member c t k ([], e, values, ok, asks) = absurd (none_is e values)
      asks_member c t k (n ∷ ns, e, values, ok, asks) =
          let (test, rest) = chosen (not (nat_eq n 0) && list_any (nat_eq (n - 1)) (numbers_of q c f.range)) (bound q fs ns (c ++ member_at f.range (n - 1) ∷ [])) e values in
          let among = any_member (numbers_of q c f.range) (n - 1) (and_parts (not (nat_eq n 0)) (list_any (nat_eq (n - 1)) (numbers_of q c f.range)) test).1 in
          (member_at f.range (n - 1), in_mapped (member_at f.range) (numbers_of q c f.range) (n - 1) among, (ns, e, rest, ok, asks))

      pub member_asks : (c : List RuleValue) (v : RuleValue) (t k : ℕ) → Contains (members_of q c f.range) v → AsksOver q rules a fs (c ++ v ∷ []) t k → AsksOver q rules a (f ∷ fs) c t k
      member_asks c v t k among asked =
          let (m, number, is) = mapped_in (member_at f.range) (numbers_of q c f.range) v among in
          let (more, e, values, ok, asks) = subst (λ (w : RuleValue). AsksOver q rules a fs (c ++ w ∷ []) t k) (sym is) asked in
          ((m + 1) ∷ more, e, bound_step q f fs m more c number ∙ values, ok, asks)
