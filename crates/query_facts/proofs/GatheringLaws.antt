-- A set of a query's predicates that a loop gathers.
use Rattle.std.proofs.Common.{◌≡◌, ℕ, ◌+◌, ◌<◌, ◌≤◌, ◌≢◌, Bool, true, false, ◌&&◌, ◌||◌, List, [], ◌∷◌, zero, suc, length, refl, ap, sym, ◌∙◌, subst, nat_lt, nat_eq, arith, inl, inr}
use Rattle.std.proofs.lemmas.Bool.{eqb-true, cases_eq}
use Rattle.std.specs.Prelude.{slice_index_or}
use Rattle.star_model.specs.Sets.{has, set_of, single, union}
use Rattle.star_model.specs.Predicates.{preds_where}
use Rattle.star_model.specs.declared.query.Query.{Query}
use Rattle.star_model.specs.declared.query.Pred.{Pred}
use Rattle.query_facts.specs.GatheredPredicates.{passes_at, gathered}
use Rattle.star_model.proofs.Laws.{has-zero, has-union, has-single, has-set_of, same_set, set_of-lt, union-lt, single-lt}

abbrev passes_below : List Pred → (Pred → Bool) → ℕ → ℕ → Bool
passes_below preds test k n = nat_lt n k && passes_at preds test n

same_tests : (p r : ℕ → Bool) → ((n : ℕ) → p n ≡ r n) → set_of p ≡ set_of r
same_tests p r h = same_set (set_of p) (set_of r) (set_of-lt p) (set_of-lt r) (λ n l. has-set_of p n l ∙ h n ∙ sym (has-set_of r n l))

there : (preds : List Pred) (test : Pred → Bool) (n : ℕ) (d : Pred) → n < length preds → passes_at preds test n ≡ test (slice_index_or preds n d)
there [] test n d h = let never : ⊥ = omega (arith, h) in absurd never
there (p ∷ preds) test zero d h = refl
there (p ∷ preds) test (suc n) d h = there preds test n d (omega (arith, h))

beyond : (preds : List Pred) (test : Pred → Bool) (n : ℕ) → length preds ≤ n → passes_at preds test n ≡ false
beyond [] test n h = refl
beyond (p ∷ preds) test zero h = let never : ⊥ = omega (arith, h) in absurd never
beyond (p ∷ preds) test (suc n) h = beyond preds test n (omega (arith, h))

none_below : (n : ℕ) → nat_lt n 0 ≡ false
none_below n = grind arith

pub gathered_none : (preds : List Pred) (test : Pred → Bool) → gathered preds test 0 ≡ 0
gathered_none preds test = same_set _ 0 (set_of-lt (λ n. passes_below preds test 0 n)) (omega arith)
    (λ n l. has-set_of (λ k. passes_below preds test 0 k) n l ∙ ap (λ b. b && passes_at preds test n) (none_below n) ∙ sym (has-zero n))

one_more : (n k : ℕ) → (nat_lt n k || nat_eq n k) ≡ nat_lt n (k + 1)
one_more n k = grind arith

added : (b c t : Bool) → (c ≡ true → t ≡ true) → ((b && t) || c) ≡ ((b || c) && t)
added true true true h = refl
added true true false h = let e : false ≡ true = h refl in cc
added true false true h = refl
added true false false h = refl
added false true true h = refl
added false true false h = let e : false ≡ true = h refl in cc
added false false t h = refl

-- the k-th passes
pub gathered_more : (preds : List Pred) (test : Pred → Bool) (k : ℕ) (d : Pred) → k < 32 → k < length preds → test (slice_index_or preds k d) ≡ true
    → union (gathered preds test k) (single k) ≡ gathered preds test (k + 1)
gathered_more preds test k d l h t =
    same_set _ _ (union-lt _ _ (set_of-lt (λ n. passes_below preds test k n)) (single-lt k l)) (set_of-lt (λ n. passes_below preds test (k + 1) n)) at
  where
    at : (n : ℕ) → n < 32 → has (union (gathered preds test k) (single k)) n ≡ has (gathered preds test (k + 1)) n
    at n m =
        has-union (gathered preds test k) (single k) n ∙ (λ i. has-set_of (λ j. passes_below preds test k j) n m i || has-single k n i)
        ∙ added (nat_lt n k) (nat_eq n k) (passes_at preds test n) (λ e. ap (passes_at preds test) (eqb-true n k e) ∙ there preds test k d h ∙ t)
        ∙ ap (λ b. b && passes_at preds test n) (one_more n k)
        ∙ sym (has-set_of (λ j. passes_below preds test (k + 1) j) n m)

-- the k-th doesn't pass
pub gathered_same : (preds : List Pred) (test : Pred → Bool) (k : ℕ) (d : Pred) → k < length preds → test (slice_index_or preds k d) ≡ false
    → gathered preds test k ≡ gathered preds test (k + 1)
gathered_same preds test k d h t = same_tests (λ n. passes_below preds test k n) (λ n. passes_below preds test (k + 1) n) at
  where
    both_false : (b c x : Bool) → x ≡ false → (b && x) ≡ (c && x)
    both_false b c true e = cc
    both_false true true false e = refl
    both_false true false false e = refl
    both_false false true false e = refl
    both_false false false false e = refl

    same_below : (m j : ℕ) → m ≢ j → nat_lt m j ≡ nat_lt m (j + 1)
    same_below m j e = grind (arith, e)

    at : (n : ℕ) → passes_below preds test k n ≡ passes_below preds test (k + 1) n
    at n = elim (cases_eq n k) [
      | inl e ↦ subst (λ m. passes_below preds test k m ≡ passes_below preds test (k + 1) m) (sym e) (both_false (nat_lt k k) (nat_lt k (k + 1)) (passes_at preds test k) (there preds test k d h ∙ t))
      | inr e ↦ ap (λ b. b && passes_at preds test n) (same_below n k e)
    ]

not_below : (n k : ℕ) → nat_lt n k ≡ false → k ≤ n
not_below n k h = grind (arith, h)

dropped : (b c : Bool) → (b ≡ false → c ≡ false) → (b && c) ≡ c
dropped true c h = refl
dropped false true h = sym (h refl)
dropped false false h = refl

pub gathered_all : (q : Query) (test : Pred → Bool) → gathered q.preds test (length q.preds) ≡ preds_where q test
gathered_all q test = same_tests (λ n. passes_below q.preds test (length q.preds) n) (passes_at q.preds test)
    (λ n. dropped _ _ (λ e. beyond q.preds test n (not_below n (length q.preds) e)))

pub ruleset gathering = (gathered_none, gathered_more, gathered_same, gathered_all)
