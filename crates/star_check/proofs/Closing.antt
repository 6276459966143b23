-- Warshall's closure: which positions rows of bits have, once they are joined through each position.
use Prim.Native.Nat.{zero, suc}
use Rattle.std.proofs.Common.{◌≡◌, ℕ, ◌+◌, ◌<◌, ◌⊎◌, inl, inr, Bool, true, false, ◌||◌, if◌then◌else◌, List, length, map, get_or, refl, ap, sym, ◌∙◌, subst, arith}
use Rattle.std.proofs.Math.Numerals.{suc-eq-add-one}
use Rattle.std.proofs.Math.ListN.{get_or-map}
use Rattle.std.specs.Prelude.{◌&&◌, slice_index}
use Rattle.std.proofs.Math.Bool.{or-true, or-false}
use Rattle.std.proofs.lemmas.Bool.{cases_eq, or_cases, and_parts}
use Rattle.std.proofs.lemmas.List.{length-map}
use Rattle.star_model.specs.Sets.{has, union}
use Rattle.star_model.proofs.Laws.{has-zero, has-union}
use Rattle.star_check.specs.Reaching.{joined, joined_through, joined_below}

has_joined : (row k via j : ℕ) → has (joined row k via) j ≡ (has row j || (has row k && has via j))
has_joined row k via j = step (has row k)
  where
    step : (b : Bool) → has (if b then union row via else row) j ≡ (has row j || (b && has via j))
    step true = has-union row via j
    step false = sym (or-false (has row j))

joined_zero : (k via : ℕ) → joined 0 k via ≡ 0
joined_zero k via = ap (λ b. if b then union 0 via else 0) (has-zero k)

-- one more position
has_through : (rows : List ℕ) (k i j : ℕ)
    → has (slice_index (joined_through k rows) i) j ≡ (has (slice_index rows i) j || (has (slice_index rows i) k && has (slice_index rows k) j))
has_through rows k i j =
    let via : ℕ = slice_index rows k in
    let row : get_or (map (λ row. joined row k via) rows) i 0 ≡ joined (get_or rows i 0) k via =
    ap (get_or (map (λ row. joined row k via) rows) i) (sym (joined_zero k via)) ∙ get_or-map (λ row. joined row k via) rows i 0 in
    ap (λ row. has row j) row ∙ has_joined (slice_index rows i) k via j

left_true : (a b : Bool) → a ≡ true → (a || b) ≡ true
left_true a b h = ap (λ c. c || b) h

right_true : (a b c : Bool) → b ≡ true → c ≡ true → (a || (b && c)) ≡ true
right_true a b c p q = (λ i. a || (p i && q i)) ∙ or-true a

-- it goes on through each position below n
pub record IsClosed (n : ℕ) (rows : List ℕ) : Type 0 where
  pub goes : (k i j : ℕ) → k < n → has (slice_index rows i) k ≡ true → has (slice_index rows k) j ≡ true → has (slice_index rows i) j ≡ true

closed_more : (n : ℕ) (rows : List ℕ) → IsClosed n rows → IsClosed (suc n) (joined_through n rows)
closed_more n rows closed = record {
  goes = λ k i j below p q.
      has_through rows n i j
      ∙ through
      k
      i
      j
      below
      (or_cases (has (slice_index rows i) k) (has (slice_index rows i) n && has (slice_index rows n) k) (sym (has_through rows n i k) ∙ p))
      (or_cases (has (slice_index rows k) j) (has (slice_index rows k) n && has (slice_index rows n) j) (sym (has_through rows n k j) ∙ q));
}
  where
    -- where the position between is below n, or n itself
    below_n : (k i j : ℕ) → k < n
        → (has (slice_index rows i) k ≡ true) ⊎ ((has (slice_index rows i) n && has (slice_index rows n) k) ≡ true)
        → (has (slice_index rows k) j ≡ true) ⊎ ((has (slice_index rows k) n && has (slice_index rows n) j) ≡ true)
        → (has (slice_index rows i) j || (has (slice_index rows i) n && has (slice_index rows n) j)) ≡ true
    below_n k i j below (inl p) (inl q) = left_true _ _ (closed.goes k i j below p q)
    below_n k i j below (inl p) (inr q) =
        let qs = and_parts (has (slice_index rows k) n) (has (slice_index rows n) j) q in right_true (has (slice_index rows i) j) _ _ (closed.goes k i n below p qs.0) qs.1
    below_n k i j below (inr p) (inl q) =
        let ps = and_parts (has (slice_index rows i) n) (has (slice_index rows n) k) p in right_true (has (slice_index rows i) j) _ _ ps.0 (closed.goes k n j below ps.1 q)
    below_n k i j below (inr p) (inr q) =
        let ps = and_parts (has (slice_index rows i) n) (has (slice_index rows n) k) p in
        let qs = and_parts (has (slice_index rows k) n) (has (slice_index rows n) j) q in right_true (has (slice_index rows i) j) _ _ ps.0 qs.1

    at_n : (i j : ℕ)
        → (has (slice_index rows i) n ≡ true) ⊎ ((has (slice_index rows i) n && has (slice_index rows n) n) ≡ true)
        → (has (slice_index rows n) j ≡ true) ⊎ ((has (slice_index rows n) n && has (slice_index rows n) j) ≡ true)
        → (has (slice_index rows i) j || (has (slice_index rows i) n && has (slice_index rows n) j)) ≡ true
    at_n i j (inl p) (inl q) = right_true (has (slice_index rows i) j) _ _ p q
    at_n i j (inl p) (inr q) = right_true (has (slice_index rows i) j) _ _ p (and_parts (has (slice_index rows n) n) (has (slice_index rows n) j) q).1
    at_n i j (inr p) (inl q) = right_true (has (slice_index rows i) j) _ _ (and_parts (has (slice_index rows i) n) (has (slice_index rows n) n) p).0 q
    at_n i j (inr p) (inr q) =
        right_true (has (slice_index rows i) j) _ _ (and_parts (has (slice_index rows i) n) (has (slice_index rows n) n) p).0 (and_parts (has (slice_index rows n) n) (has (slice_index rows n) j) q).1

    through : (k i j : ℕ) → k < suc n
        → (has (slice_index rows i) k ≡ true) ⊎ ((has (slice_index rows i) n && has (slice_index rows n) k) ≡ true)
        → (has (slice_index rows k) j ≡ true) ⊎ ((has (slice_index rows k) n && has (slice_index rows n) j) ≡ true)
        → (has (slice_index rows i) j || (has (slice_index rows i) n && has (slice_index rows n) j)) ≡ true
    through k i j below =
        elim (cases_eq k n) as
        (λ _.
        (has (slice_index rows i) k ≡ true) ⊎ ((has (slice_index rows i) n && has (slice_index rows n) k) ≡ true)
        → (has (slice_index rows k) j ≡ true) ⊎ ((has (slice_index rows k) n && has (slice_index rows n) j) ≡ true)
        → (has (slice_index rows i) j || (has (slice_index rows i) n && has (slice_index rows n) j)) ≡ true) [
          | inl e ↦
              subst
              (λ (m : ℕ).
              (has (slice_index rows i) m ≡ true) ⊎ ((has (slice_index rows i) n && has (slice_index rows n) m) ≡ true)
              → (has (slice_index rows m) j ≡ true) ⊎ ((has (slice_index rows m) n && has (slice_index rows n) j) ≡ true)
              → (has (slice_index rows i) j || (has (slice_index rows i) n && has (slice_index rows n) j)) ≡ true)
              (sym e)
              (at_n i j)
          | inr ne ↦ below_n k i j (omega (arith, below, ne))
        ]

pub closed_below : (n : ℕ) (rows : List ℕ) → IsClosed n (joined_below n rows)
unfolding joined_below
closed_below zero rows = record { goes = λ k i j below p q. let no : ⊥ = omega (arith, below) in absurd no }
closed_below (suc n) rows = closed_more n (joined_below n rows) (closed_below n rows)

pub grows : (n : ℕ) (rows : List ℕ) (i j : ℕ) → has (slice_index rows i) j ≡ true → has (slice_index (joined_below n rows) i) j ≡ true
unfolding joined_below
grows zero rows i j h = h
grows (suc n) rows i j h = has_through (joined_below n rows) n i j ∙ left_true _ _ (grows n rows i j h)

pub sound : (n : ℕ) (rows : List ℕ) (R : ℕ → ℕ → Type 0) → ((i k j : ℕ) → R i k → R k j → R i j) → ((i j : ℕ) → has (slice_index rows i) j ≡ true → R i j)
    → (i j : ℕ) → has (slice_index (joined_below n rows) i) j ≡ true → R i j
unfolding joined_below
sound zero rows R onward direct i j h = direct i j h
sound (suc n) rows R onward direct i j h =
    let earlier : (i j : ℕ) → has (slice_index (joined_below n rows) i) j ≡ true → R i j = sound n rows R onward direct in
    elim (or_cases (has (slice_index (joined_below n rows) i) j) (has (slice_index (joined_below n rows) i) n && has (slice_index (joined_below n rows) n) j) (sym (has_through (joined_below n rows) n i j) ∙ h))
    [ inl p ↦ earlier i j p | inr p ↦ let parts = and_parts (has (slice_index (joined_below n rows) i) n) (has (slice_index (joined_below n rows) n) j) p in onward i n j (earlier i n parts.0) (earlier n j parts.1) ]

pub joined_length : (n : ℕ) (rows : List ℕ) → length (joined_below n rows) ≡ length rows
unfolding joined_below
joined_length zero rows = refl
joined_length (suc n) rows = length-map (joined_below n rows) (λ row. joined row n (slice_index (joined_below n rows) n)) ∙ joined_length n rows

joined_suc : (n : ℕ) (rows : List ℕ) → joined_through n (joined_below n rows) ≡ joined_below (suc n) rows
unfolding joined_below
joined_suc n rows = refl

pub joined_more : (n : ℕ) (rows : List ℕ) → joined_through n (joined_below n rows) ≡ joined_below (n + 1) rows
joined_more n rows = joined_suc n rows ∙ ap (λ m. joined_below m rows) (suc-eq-add-one n)
