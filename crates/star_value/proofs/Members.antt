-- The set of all quantifiers.
use Rattle.std.proofs.Common.{◌≡◌, ℕ, ◌+◌, ◌<◌, Bool, true, false, ◌||◌, List, [], ◌∷◌, zero, suc, length, sym, ◌∙◌, nat_lt, nat_eq, arith}
use Rattle.std.specs.Prelude.{slice_get}
use Rattle.std.specs.Option.{option_map_or}
use Rattle.star_model.specs.Sets.{has, set_of, single, union}
use Rattle.star_model.specs.Predicates.{all_quants}
use Rattle.star_model.specs.declared.query.Query.{Query}
use Rattle.star_model.specs.declared.query.QuantDef.{QuantDef}
use Rattle.star_model.proofs.Laws.{has-zero, has-union, has-single, has-set_of, same_set, set_of-lt, union-lt, single-lt}

-- the first k numbers
abbrev pub below : ℕ → ℕ
below k = set_of (λ n. nat_lt n k)

none_below : (n : ℕ) → nat_lt n 0 ≡ false
none_below n = grind arith

one_more : (n k : ℕ) → (nat_lt n k || nat_eq n k) ≡ nat_lt n (k + 1)
one_more n k = grind arith

pub below_none : below 0 ≡ 0
below_none = same_set _ 0 (set_of-lt (λ n. nat_lt n 0)) (omega arith) (λ n l. has-set_of (λ m. nat_lt m 0) n l ∙ none_below n ∙ sym (has-zero n))

pub below_more : (k : ℕ) → k < 32 → union (below k) (single k) ≡ below (k + 1)
below_more k l = same_set _ _ (union-lt _ _ (set_of-lt (λ n. nat_lt n k)) (single-lt k l)) (set_of-lt (λ n. nat_lt n (k + 1))) at
  where
    at : (n : ℕ) → n < 32 → has (union (below k) (single k)) n ≡ has (below (k + 1)) n
    at n m = has-union (below k) (single k) n ∙ (λ i. has-set_of (λ j. nat_lt j k) n m i || has-single k n i) ∙ one_more n k ∙ sym (has-set_of (λ j. nat_lt j (k + 1)) n m)

there : (xs : List QuantDef) (n : ℕ) → nat_lt n (length xs) ≡ option_map_or (λ d. true) (slice_get xs n) false
there [] n = none_below n
there (x ∷ xs) zero = grind arith
there (x ∷ xs) (suc n) = let e : nat_lt (suc n) (suc (length xs)) ≡ nat_lt n (length xs) = grind arith in e ∙ there xs n

pub below_all : (q : Query) → below (length q.quants) ≡ all_quants q
below_all q = same_set _ _ (set_of-lt (λ n. nat_lt n (length q.quants))) (set_of-lt defined)
    (λ n l. has-set_of (λ m. nat_lt m (length q.quants)) n l ∙ there q.quants n ∙ sym (has-set_of defined n l))
  where
    defined : ℕ → Bool
    defined n = option_map_or (λ d. true) (slice_get q.quants n) false

pub ruleset all_rules = (below_none, below_more, below_all)
