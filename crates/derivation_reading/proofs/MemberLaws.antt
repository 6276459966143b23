-- A set is the one of its members in rising order, and has those from which it is made.
use Rattle.std.proofs.Common.{◌≡◌, ℕ, zero, suc, ◌+◌, ◌<◌, ◌≤◌, Bool, true, false, ◌||◌, nat_eq, if◌then◌else◌, List, [], ◌∷◌, filter, length, refl, sym, ap, ◌∙◌, subst, arith, inl, inr}
use Rattle.std.specs.List.{range_with_len}
use Rattle.std.proofs.lemmas.Bool.{ne_eqb, eq-eqb, cases_eq}
use Rattle.star_model.specs.Sets.{has, members, places, single, union}
use Rattle.star_model.proofs.Laws.{has-zero, has-union, has-single, same_set, union-lt, single-lt}
use Rattle.derivation_reading.specs.Derivations.{IsMask}

-- the numbers rise, from the least on, and are below 32
abbrev pub IsRising : ℕ → List ℕ → Type 0
IsRising least [] = Unit {0}
IsRising least (m ∷ ms) = (least ≤ m) × (m < 32) × IsRising (m + 1) ms

pub rising_few : (least : ℕ) (ms : List ℕ) → least ≤ 32 → IsRising least ms → least + length ms ≤ 32
rising_few least [] low rising = omega arith
rising_few least (m ∷ ms) low rising = let more = rising_few (m + 1) ms (omega (arith, rising.1)) rising.2 in omega (arith, more, rising.0)

rising_from : (least : ℕ) (ms : List ℕ) → IsRising (least + 1) ms → IsRising least ms
rising_from least [] rising = tt
rising_from least (m ∷ ms) rising = (omega (arith, rising.0), rising.1, rising.2)

-- the set with these members more
unfoldable pub with_all : ℕ → List ℕ → ℕ
with_all set [] = set
with_all set (m ∷ ms) = with_all (union set (single m)) ms

pub with_all-mask : (set least : ℕ) (ms : List ℕ) → IsMask set → IsRising least ms → IsMask (with_all set ms)
unfolding with_all
with_all-mask set least [] mask rising = mask
with_all-mask set least (m ∷ ms) mask rising = with_all-mask (union set (single m)) (m + 1) ms (union-lt set (single m) mask (single-lt m rising.1)) rising.2

-- ---- whether a number is among others

abbrev is_in : List ℕ → ℕ → Bool
is_in [] n = false
is_in (m ∷ ms) n = nat_eq n m || is_in ms n

or_over : (a b c : Bool) → ((a || b) || c) ≡ (a || (b || c))
or_over true b c = refl
or_over false b c = refl

has-with_all : (set : ℕ) (ms : List ℕ) (n : ℕ) → has (with_all set ms) n ≡ (has set n || is_in ms n)
unfolding with_all
has-with_all set [] n = or_none (has set n)
  where
    or_none : (b : Bool) → b ≡ (b || false)
    or_none true = refl
    or_none false = refl
has-with_all set (m ∷ ms) n =
    has-with_all (union set (single m)) ms n
    ∙ ap (λ (b : Bool). b || is_in ms n) (has-union set (single m) n ∙ ap (λ (b : Bool). has set n || b) (has-single m n))
    ∙ or_over (has set n) (nat_eq n m) (is_in ms n)

has-all : (ms : List ℕ) (n : ℕ) → has (with_all 0 ms) n ≡ is_in ms n
has-all ms n = has-with_all 0 ms n ∙ ap (λ (b : Bool). b || is_in ms n) (has-zero n)

not_below : (least : ℕ) (ms : List ℕ) (n : ℕ) → IsRising least ms → n < least → is_in ms n ≡ false
not_below least [] n rising low = refl
not_below least (m ∷ ms) n rising low =
    let other : nat_eq n m ≡ false = ne_eqb n m (λ e. omega (arith, rising.0, e)) in
    rw other (not_below (m + 1) ms n rising.2 (omega (arith, rising.0)))

-- ---- what a test leaves of a range

module _ (test : ℕ → Bool) where
  left : ℕ → ℕ → List ℕ
  left k count = filter test (range_with_len k count)

  left-step : (k count : ℕ) (b : Bool) → test k ≡ b → left k (suc count) ≡ (if b then k ∷ left (k + 1) count else left (k + 1) count)
  unfolding left
  left-step k count b is = ap (λ (t : Bool). if t then k ∷ filter test (range_with_len (k + 1) count) else filter test (range_with_len (k + 1) count)) is

  left-none : (k : ℕ) → left k 0 ≡ []
  unfolding left
  left-none k = refl

  left-rising : (k count : ℕ) → k + count ≤ 32 → IsRising k (left k count)
  left-rising k zero low = rw (left-none k) tt
  left-rising k (suc count) low = at (test k) refl (left-rising (k + 1) count (omega arith))
    where
      at : (b : Bool) → test k ≡ b → IsRising (k + 1) (left (k + 1) count) → IsRising k (left k (suc count))
      at true is later = rw (left-step k count true is) ((omega arith, omega arith, later))
      at false is later = rw (left-step k count false is) (rising_from k (left (k + 1) count) later)

  left-has : (k count n : ℕ) → k + count ≤ 32 → k ≤ n → n < k + count → is_in (left k count) n ≡ test n
  left-has k zero n low from to = absurd (omega arith)
  left-has k (suc count) n low from to = at (test k) refl (λ above. left-has (k + 1) count n (omega arith) above (omega arith))
    where
      here : n ≡ k → (b : Bool) → test k ≡ b → is_in (left (k + 1) count) n ≡ false → is_in (left k (suc count)) n ≡ test n
      here same true is none = let e : nat_eq n k ≡ true = eq-eqb n k same in rw (left-step k count true is, e) (sym (ap test same ∙ is))
      here same false is none = rw (left-step k count false is) (none ∙ sym (ap test same ∙ is))

      later : (n ≡ k → ⊥) → (b : Bool) → test k ≡ b → is_in (left (k + 1) count) n ≡ test n → is_in (left k (suc count)) n ≡ test n
      later other true is rest = let e : nat_eq n k ≡ false = ne_eqb n k other in rw (left-step k count true is, e) rest
      later other false is rest = rw (left-step k count false is) rest

      at : (b : Bool) → test k ≡ b → (k + 1 ≤ n → is_in (left (k + 1) count) n ≡ test n) → is_in (left k (suc count)) n ≡ test n
      at b is rest =
          elim (cases_eq n k) [
            | inl same ↦ here same b is (not_below (k + 1) (left (k + 1) count) n (left-rising (k + 1) count (omega arith)) (omega arith))
            | inr other ↦ later other b is (rest (omega (arith, other)))
          ]

  -- those that pass are these, where these rise and are the ones that pass
  left-are : (k count : ℕ) (ms : List ℕ) → k + count ≡ 32 → IsRising k ms → ((n : ℕ) → k ≤ n → test n ≡ is_in ms n) → left k count ≡ ms
  left-are k zero [] all rising same = left-none k
  left-are k zero (m ∷ ms) all rising same = absurd (omega (arith, rising.0, rising.1))
  left-are k (suc count) [] all rising same = left-step k count false (same k (omega arith)) ∙ left-are (k + 1) count [] (omega arith) tt (λ n from. same n (omega arith))
  left-are k (suc count) (m ∷ ms) all rising same =
      elim (cases_eq k m) [
        | inl is ↦
            let passes : test k ≡ true = same k (omega arith) ∙ ap (λ (b : Bool). b || is_in ms k) (eq-eqb k m is) in
            left-step k count true passes
            ∙ ap (λ (l : List ℕ). k ∷ l) (left-are (k + 1) count ms (omega arith) (subst (λ (i : ℕ). IsRising (i + 1) ms) (sym is) rising.2)
            (λ n from. same n (omega arith) ∙ ap (λ (b : Bool). b || is_in ms n) (ne_eqb n m (λ e. omega (arith, e, is)))))
            ∙ ap (λ (i : ℕ). i ∷ ms) is
        | inr other ↦
            let above : k < m = omega (arith, rising.0, other) in
            let fails : test k ≡ false = same k (omega arith) ∙ not_below (k + 1) (m ∷ ms) k ((omega (arith, above), rising.1, rising.2)) (omega arith) in
            left-step k count false fails ∙ left-are (k + 1) count (m ∷ ms) (omega arith) ((omega (arith, above), rising.1, rising.2)) (λ n from. same n (omega arith))
      ]

-- ---- the two ways

pub members-rise : (s : ℕ) → IsRising 0 (members s)
unfolding members places left
members-rise s = left-rising (has s) 0 32 (omega arith)

pub all-members : (s : ℕ) → IsMask s → with_all 0 (members s) ≡ s
unfolding members places left
all-members s mask =
    same_set (with_all 0 (members s)) s (with_all-mask 0 0 (members s) (omega arith) (members-rise s)) mask
    (λ n low. has-all (members s) n ∙ left-has (has s) 0 32 n (omega arith) (omega arith) (omega (arith, low)))

pub members-all : (ms : List ℕ) → IsRising 0 ms → members (with_all 0 ms) ≡ ms
unfolding members places left
members-all ms rising = left-are (has (with_all 0 ms)) 0 32 ms (omega arith) rising (λ n from. has-all ms n)
