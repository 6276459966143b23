-- The member of a range that has a number, looked for among the members with their numbers.
use Rattle.std.proofs.Common.{◌≡◌, ℕ, ◌+◌, ◌-◌, Bool, true, false, not, ◌&&◌, nat_eq, List, [], ◌∷◌, ◌++◌, Some, None, refl, ap, sym, ◌∙◌, arith, map, if◌then◌else◌, false-eqb}
use Rattle.std.specs.List.{list_any}
use Rattle.std.proofs.lemmas.Bool.{false≢true, or_left, or_right, or_from, or_parts, and_from, eq-eqb, ne_eqb}
use Rattle.star_model.specs.Meaning.{numbers_of, member_at}
use Rattle.star_model.specs.declared.query.Query.{Query}
use Rattle.star_model.specs.declared.rules.Range.{Range}
use Rattle.star_model.specs.declared.values.RuleValue.{RuleValue}
use Rattle.plan_check.specs.Bound.{member_numbered}

-- the numbers, each with its member
abbrev pub pairs : {A : Type 0} → (ℕ → A) → List ℕ → List (ℕ × A)
pairs at ns = map (λ n. (n, at n)) ns

-- whether one of them is just below n
abbrev pub is_seen : {A : Type 0} → ℕ → List (ℕ × A) → Bool
is_seen n ps = list_any (λ p. nat_eq (p.0 + 1) n) ps

among : {A : Type 0} (at : ℕ → A) (k : ℕ) (v : A) (ns : List ℕ) (ys more : List (ℕ × A)) → pairs at ns ≡ ys ++ (k, v) ∷ more → (list_any (nat_eq k) ns ≡ true) × (at k ≡ v)
among at k v [] [] more is = cc
among at k v [] (y ∷ ys) more is = cc
among {A} at k v (n ∷ ns) [] more is =
    let pair : (n, at n) ≡ (k, v) = cc in
    let same : n ≡ k = ap (λ (p : ℕ × A). p.0) pair in
    let member : at n ≡ v = ap (λ (p : ℕ × A). p.1) pair in
    (or_left (nat_eq k n) (list_any (nat_eq k) ns) (eq-eqb k n (sym same)), ap at (sym same) ∙ member)
among at k v (n ∷ ns) (y ∷ ys) more is =
    let rest : pairs at ns ≡ ys ++ (k, v) ∷ more = cc in
    let later = among at k v ns ys more rest in
    (or_right (nat_eq k n) (list_any (nat_eq k) ns) later.0, later.1)

none_among : {A : Type 0} (at : ℕ → A) (k n : ℕ) (ns : List ℕ) → k + 1 ≡ n → is_seen n (pairs at ns) ≡ false → list_any (nat_eq k) ns ≡ false
none_among at k n [] is h = cc
none_among at k n (m ∷ ns) is h =
    let both = or_parts (nat_eq (m + 1) n) (is_seen n (pairs at ns)) h in
    or_from (nat_eq k m) (list_any (nat_eq k) ns)
    (ne_eqb k m (λ e. false≢true (sym both.0 ∙ eq-eqb (m + 1) n (ap (λ x. x + 1) (sym e) ∙ is))))
    (none_among at k n ns is both.1)

pub member_found : (q : Query) (b : List RuleValue) (r : Range) (n k : ℕ) (v : RuleValue) (ys more : List (ℕ × RuleValue))
    → pairs (member_at r) (numbers_of q b r) ≡ ys ++ (k, v) ∷ more → k + 1 ≡ n → Some v ≡ member_numbered q b r n
member_found q b r n k v ys more all is =
    let found = among (member_at r) k v (numbers_of q b r) ys more all in
    let back : n - 1 ≡ k = omega (arith, is) in
    let some : not (nat_eq n 0) ≡ true = ap not (ne_eqb n 0 (λ h. let no : ⊥ = omega (arith, is, h) in no)) in
    let passes : (not (nat_eq n 0) && list_any (nat_eq (n - 1)) (numbers_of q b r)) ≡ true = and_from _ _ some (ap (λ m. list_any (nat_eq m) (numbers_of q b r)) back ∙ found.0) in
    sym (ap (λ t. if t then Some (member_at r (n - 1)) else None) passes ∙ ap Some (ap (member_at r) back ∙ found.1))

pub member_missed : (q : Query) (b : List RuleValue) (r : Range) (n : ℕ) (ys : List (ℕ × RuleValue)) → pairs (member_at r) (numbers_of q b r) ≡ ys → is_seen n ys ≡ false → None ≡ member_numbered q b r n
member_missed q b r n ys all seen =
    let none : is_seen n (pairs (member_at r) (numbers_of q b r)) ≡ false = ap (is_seen n) all ∙ seen in
    sym (whole (not (nat_eq n 0) && list_any (nat_eq (n - 1)) (numbers_of q b r)) (fails n none))
  where
    whole : (t : Bool) → t ≡ false → (if t then Some (member_at r (n - 1)) else None) ≡ None
    whole t h = ap (λ t. if t then Some (member_at r (n - 1)) else None) h

    fails : (n : ℕ) → is_seen n (pairs (member_at r) (numbers_of q b r)) ≡ false → (not (nat_eq n 0) && list_any (nat_eq (n - 1)) (numbers_of q b r)) ≡ false
    fails n none = go (nat_eq n 0) refl
      where
        go : (z : Bool) → nat_eq n 0 ≡ z → (not z && list_any (nat_eq (n - 1)) (numbers_of q b r)) ≡ false
        go true h = refl
        go false h = none_among (member_at r) (n - 1) n (numbers_of q b r) (let some : n ≡ 0 → ⊥ = false-eqb n 0 (sym h) in omega (arith, some)) none
