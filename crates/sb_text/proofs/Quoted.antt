-- Where a quoted text ends.
use Rattle.std.proofs.Common.{◌≡◌, ◌+◌, ◌<◌, ◌≤◌, ℕ, List, [], ◌∷◌, ◌==◌, true, false, Option, None, Some, unwrap_or, IfSome, refl, ap, ◌∙◌, arith, length, drop, get_or, add-one, suc, eq-eqb, sym, inl, inr}
use Rattle.std.proofs.Math.Seq.{drop-cons}
use Rattle.std.proofs.lemmas.Bool.Decides.{eqb_tells}
use Rattle.std.proofs.lemmas.List.{drop_all}
use Rattle.sb_text.specs.Bytes.{is_quote}
use Rattle.sb_text.specs.Front.{quoted_len, longer_by}

-- the later end, where there is one, else the one that was seen
abbrev pub later_or : Option ℕ → Option ℕ → Option ℕ
later_or None seen = seen
later_or (Some n) seen = Some n

longer_by_both : (k m : ℕ) (o : Option ℕ) → longer_by k (longer_by m o) ≡ longer_by (m + k) o
longer_by_both k m None = refl
longer_by_both k m (Some n) = ap (λ i. Some i) (omega arith)

eqb-ne : (a b : ℕ) → (a ≡ b → ⊥) → (a == b) ≡ false
eqb-ne a b ne = elim (eqb_tells a b) [ inl t ↦ absurd (ne t.1) | inr f ↦ f.0 ]

pub quoted_len-other : (b : ℕ) (rest : List ℕ) → is_quote b ≡ false → quoted_len (b ∷ rest) ≡ longer_by 1 (quoted_len rest)
quoted_len-other b [] is = rw is refl
quoted_len-other b (c ∷ rest) is = rw is refl

pub quoted_len-pair : (b c : ℕ) (rest : List ℕ) → is_quote b ≡ true → is_quote c ≡ true → quoted_len (b ∷ c ∷ rest) ≡ Some (unwrap_or (longer_by 2 (quoted_len rest)) 1)
quoted_len-pair b c rest first second = rw (first, second) refl

pub quoted_len-last : (b : ℕ) → is_quote b ≡ true → quoted_len (b ∷ []) ≡ Some 1
quoted_len-last b first = rw first refl

pub quoted_len-closed : (b c : ℕ) (rest : List ℕ) → is_quote b ≡ true → is_quote c ≡ false → quoted_len (b ∷ c ∷ rest) ≡ Some 1
quoted_len-closed b c rest first second = rw (first, second) refl

at_other : (at : ℕ) (rest : List ℕ) → at < length rest → (get_or rest at 0 ≡ 39 → ⊥) → quoted_len (drop at rest) ≡ longer_by 1 (quoted_len (drop (at + 1) rest))
at_other at rest lt ne =
    rw (add-one, drop-cons rest at 0) (quoted_len-other (get_or rest at 0) (drop (suc at) rest) (eqb-ne (get_or rest at 0) 39 ne))

at_pair : (at : ℕ) (rest : List ℕ) → at + 1 < length rest → get_or rest at 0 ≡ 39 → get_or rest (at + 1) 0 ≡ 39
    → quoted_len (drop at rest) ≡ Some (unwrap_or (longer_by 2 (quoted_len (drop (at + 2) rest))) 1)
at_pair at rest lt first second =
    let here : at < length rest = omega arith in
    let next : suc at < length rest = omega arith in
    let two : suc (suc at) ≡ at + 2 = omega arith in
    let seen : get_or rest (suc at) 0 ≡ 39 = ap (λ i. get_or rest i 0) (sym (add-one at)) ∙ second in
    rw (drop-cons rest at 0 here, drop-cons rest (suc at) 0 next)
    (quoted_len-pair (get_or rest at 0) (get_or rest (suc at) 0) (drop (suc (suc at)) rest) (eq-eqb _ _ first) (eq-eqb _ _ seen)
    ∙ ap (λ i. Some (unwrap_or (longer_by 2 (quoted_len (drop i rest))) 1)) two)

pub starts : (rest : List ℕ) → later_or (longer_by 0 (quoted_len (drop 0 rest))) None ≡ quoted_len rest
starts rest = from_zero (quoted_len rest) where
  from_zero : (o : Option ℕ) → later_or (longer_by 0 o) None ≡ o
  from_zero None = refl
  from_zero (Some n) = ap (λ m. Some m) (omega arith)

pub other_goes_on : (at : ℕ) (rest : List ℕ) (closed whole : Option ℕ) → at < length rest → (get_or rest at 0 ≡ 39 → ⊥)
    → later_or (longer_by at (quoted_len (drop at rest))) closed ≡ whole → later_or (longer_by (at + 1) (quoted_len (drop (at + 1) rest))) closed ≡ whole
other_goes_on at rest closed whole lt ne before =
    ap (λ o. later_or o closed) (ap (λ n. longer_by n (quoted_len (drop (at + 1) rest))) (omega arith) ∙ sym (longer_by_both at 1 (quoted_len (drop (at + 1) rest)))
    ∙ ap (λ o. longer_by at o) (sym (at_other at rest lt ne)))
    ∙ before

after_pair : (at : ℕ) (closed later : Option ℕ) → later_or (longer_by (at + 2) later) (Some (at + 1)) ≡ later_or (longer_by at (Some (unwrap_or (longer_by 2 later) 1))) closed
after_pair at closed None = ap (λ n. Some n) (omega arith)
after_pair at closed (Some m) = ap (λ n. Some n) (omega arith)

pub pair_goes_on : (at : ℕ) (rest : List ℕ) (closed whole : Option ℕ) → at + 1 < length rest → get_or rest at 0 ≡ 39 → get_or rest (at + 1) 0 ≡ 39
    → later_or (longer_by at (quoted_len (drop at rest))) closed ≡ whole → later_or (longer_by (at + 2) (quoted_len (drop (at + 2) rest))) (Some (at + 1)) ≡ whole
pair_goes_on at rest closed whole lt first second before =
    after_pair at closed (quoted_len (drop (at + 2) rest)) ∙ ap (λ o. later_or (longer_by at o) closed) (sym (at_pair at rest lt first second)) ∙ before

pub ends : (at : ℕ) (rest : List ℕ) (closed whole : Option ℕ) → length rest ≤ at → later_or (longer_by at (quoted_len (drop at rest))) closed ≡ whole → closed ≡ whole
ends at rest closed whole le before = rw (drop_all at rest le) at before

pub further : (at : ℕ) (closed : Option ℕ) → IfSome closed (λ n. (0 < n) × (n ≤ at)) → IfSome closed (λ n. (0 < n) × (n ≤ at + 1))
further at None seen = tt
further at (Some n) seen = (seen.0, omega arith)

pub seen_within : (at most : ℕ) (closed : Option ℕ) → at ≤ most → IfSome closed (λ n. (0 < n) × (n ≤ at)) → IfSome closed (λ n. (0 < n) × (n ≤ most))
seen_within at most None le seen = tt
seen_within at most (Some n) le seen = (seen.0, omega arith)
