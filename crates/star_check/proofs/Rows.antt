-- Rows of bits.
use Rattle.std.proofs.Common.{◌≡◌, ℕ, ◌+◌, ◌*◌, ◌/◌, ◌%◌, ◌^◌, ◌<◌, ◌≤◌, inl, inr, Bool, true, false, ◌||◌, nat_eq, nat_lt, bit_and, bit_or, List, length, get_or, take, drop, ◌++◌, w64, refl, ap, sym, ◌∙◌, subst, arith}
use Rattle.std.specs.Prelude.{◌&&◌, Some}
use Rattle.std.proofs.Math.Seq.{take-append_seam}
use Rattle.std.specs.Option.{option_map_or}
use Rattle.std.proofs.Math.Bool.{or-true, or-false, and-false, and-true}
use Rattle.std.proofs.lemmas.Bool.{eq-eqb, ne_eqb, cases_eq, cases_lt, lt-ltb, le-ltb}
use Rattle.std.proofs.lemmas.Option.{slice_get-get_or, slice_get_past}
use Rattle.std.proofs.lemmas.Nat.Bits.{shr_and_one, bit_at_set_same, bit_at_set_other}
use Rattle.star_model.specs.Sets.{has}
use Rattle.star_model.proofs.Laws.{has-zero}
use Rattle.star_model.specs.declared.rules.StarDef.{StarDef}
use Rattle.star_check.specs.Reaching.{refers, refers_to}

pub shifted : (row position : ℕ) → nat_eq (bit_and (row / 2 ^ position) 1) 1 ≡ has row position
unfolding has
shifted row position = ap (λ b. nat_eq b 1) (shr_and_one row position)

pub set_bit : (row position k : ℕ) → position < 64 → has (bit_or row (1 * 2 ^ position % 2 ^ 64)) k ≡ (has row k || nat_eq k position)
unfolding has
set_bit row position k below =
    elim (cases_eq k position) [
      | inl e ↦
          let base : has (bit_or row (1 * 2 ^ position % 2 ^ 64)) position ≡ (has row position || nat_eq position position) =
          ap (λ b. nat_eq b 1) (bit_at_set_same w64 row position below) ∙ sym (ap (λ b. has row position || b) (eq-eqb position position refl) ∙ or-true (has row position)) in
          subst (λ (j : ℕ). has (bit_or row (1 * 2 ^ position % 2 ^ 64)) j ≡ (has row j || nat_eq j position)) (sym e) base
      | inr ne ↦
          ap (λ b. nat_eq b 1) (bit_at_set_other w64 row position below k ne) ∙ sym (ap (λ b. has row k || b) (ne_eqb k position ne) ∙ or-false (has row k))
    ]

-- ---- the row of a STAR's own references, position by position

pub no_position : (b : Bool) (k : ℕ) → has 0 k ≡ (nat_lt k 0 && b)
no_position b k = has-zero k ∙ sym (ap (λ c. c && b) (at_zero k))
  where
    at_zero : (k : ℕ) → nat_lt k 0 ≡ false
    at_zero k = le-ltb k 0 (omega arith)

pub one_position : (stars : List StarDef) (s t : StarDef) (row next position k : ℕ) → position < length stars → t ≡ get_or stars position t
    → has row k ≡ (nat_lt k position && refers_to stars s k) → has next k ≡ (has row k || (refers s t.name && nat_eq k position))
    → has next k ≡ (nat_lt k (position + 1) && refers_to stars s k)
one_position stars s t row next position k below is before after = after ∙ ap (λ b. b || (refers s t.name && nat_eq k position)) before ∙ cases
  where
    own : refers_to stars s position ≡ refers s t.name
    own = ap (λ o. option_map_or (λ u. refers s u.name) o false) (slice_get-get_or stars position t below ∙ ap Some (sym is))

    cases : ((nat_lt k position && refers_to stars s k) || (refers s t.name && nat_eq k position)) ≡ (nat_lt k (position + 1) && refers_to stars s k)
    cases =
        elim (cases_eq k position) [
          | inl e ↦
              let less : nat_lt k position ≡ false = le-ltb k position (omega (arith, e)) in
              let more : nat_lt k (position + 1) ≡ true = lt-ltb k (position + 1) (omega (arith, e)) in
              (λ i. (less i && refers_to stars s k) || (refers s t.name && eq-eqb k position e i)) ∙ and-true (refers s t.name) ∙ sym own ∙ ap (refers_to stars s) (sym e)
              ∙ sym (ap (λ b. b && refers_to stars s k) more)
          | inr ne ↦
              let same : nat_lt k position ≡ nat_lt k (position + 1) =
              elim (cases_lt k position) [
                | inl lt ↦ lt-ltb k position lt ∙ sym (lt-ltb k (position + 1) (omega (arith, lt)))
                | inr ge ↦ le-ltb k position ge ∙ sym (le-ltb k (position + 1) (omega (arith, ge, ne)))
              ] in
              (λ i. (same i && refers_to stars s k) || (refers s t.name && ne_eqb k position ne i)) ∙ ap (λ b. (nat_lt k (position + 1) && refers_to stars s k) || b) (and-false (refers s t.name))
              ∙ or-false (nat_lt k (position + 1) && refers_to stars s k)
        ]

pub all_positions : (stars : List StarDef) (s : StarDef) (row n k : ℕ) → length stars ≤ n → has row k ≡ (nat_lt k n && refers_to stars s k) → has row k ≡ refers_to stars s k
all_positions stars s row n k end is =
    elim (cases_lt k (length stars)) [
      | inl lt ↦ is ∙ ap (λ b. b && refers_to stars s k) (lt-ltb k n (omega (arith, lt, end)))
      | inr ge ↦
          let past : refers_to stars s k ≡ false = ap (λ o. option_map_or (λ u. refers s u.name) o false) (slice_get_past stars k ge) in
          is ∙ ap (λ b. nat_lt k n && b) past ∙ and-false (nat_lt k n) ∙ sym past
    ]

-- the rows, written over the items of a vector
pub written : (new items : List ℕ) (n : ℕ) → n ≡ length items → length new ≡ length items → take n (new ++ drop (length new) items) ≡ new
written new items n h e = ap (λ m. take m (new ++ drop (length new) items)) (h ∙ sym e) ∙ take-append_seam new (drop (length new) items)
