-- The longest text at the front is of the form of a text, and no text at the front is longer.
use Rattle.std.proofs.Common.{◌≡◌, ◌+◌, ◌≤◌, ℕ, Bool, true, false, List, [], ◌∷◌, ◌++◌, length, take, Option, None, Some, unwrap_or, refl, ap, sym, ◌∙◌, arith, suc, subst}
use Rattle.std.proofs.lemmas.Bool.{eqb-true}
use Rattle.std.specs.Option.{IsSomeAnd}
use Rattle.sb_text.specs.Bytes.{is_quote}
use Rattle.sb_text.specs.Forms.{doubled}
use Rattle.sb_text.specs.Front.{quoted_len, longer_by}
use Rattle.sb_text.proofs.Quoted.{quoted_len-other, quoted_len-pair, quoted_len-last, quoted_len-closed}

pub doubled-quote : (b : ℕ) (inner : List ℕ) → is_quote b ≡ true → doubled (b ∷ inner) ≡ b ∷ b ∷ doubled inner
doubled-quote b inner e = rw e refl

pub doubled-other : (b : ℕ) (inner : List ℕ) → is_quote b ≡ false → doubled (b ∷ inner) ≡ b ∷ doubled inner
doubled-other b inner e = rw e refl

at_least_one : (o : Option ℕ) → 1 ≤ unwrap_or (longer_by 2 o) 1
at_least_one None = omega arith
at_least_one (Some n) = omega arith

le-first : (after : List ℕ) → IsSomeAnd (quoted_len (39 ∷ after)) (λ n. 1 ≤ n)
le-first [] = omega arith
le-first (c ∷ rest) = by_next (is_quote c) refl where
  by_next : (b : Bool) → is_quote c ≡ b → IsSomeAnd (quoted_len (39 ∷ c ∷ rest)) (λ n. 1 ≤ n)
  by_next true e = rw (quoted_len-pair 39 c rest refl e) (at_least_one (quoted_len rest))
  by_next false e = rw (quoted_len-closed 39 c rest refl e) (omega arith)

two_more : (o : Option ℕ) (k : ℕ) → IsSomeAnd o (λ n. k ≤ n) → k + 2 ≤ unwrap_or (longer_by 2 o) 1
two_more None k some = absurd some
two_more (Some n) k some = omega arith

one_more : (o : Option ℕ) (k m : ℕ) → m ≡ k + 1 → IsSomeAnd o (λ n. k ≤ n) → IsSomeAnd (longer_by 1 o) (λ n. m ≤ n)
one_more None k m is some = absurd some
one_more (Some n) k m is some = omega arith

pub le-quoted_len : (inner after : List ℕ) → IsSomeAnd (quoted_len (doubled inner ++ 39 ∷ after)) (λ n. length (doubled inner) + 1 ≤ n)
le-quoted_len [] after = le-first after
le-quoted_len (b ∷ inner) after = by_quote (is_quote b) refl (le-quoted_len inner after) where
  by_quote : (q : Bool) → is_quote b ≡ q → IsSomeAnd (quoted_len (doubled inner ++ 39 ∷ after)) (λ n. length (doubled inner) + 1 ≤ n)
      → IsSomeAnd (quoted_len (doubled (b ∷ inner) ++ 39 ∷ after)) (λ n. length (doubled (b ∷ inner)) + 1 ≤ n)
  by_quote true e later =
      rw (doubled-quote b inner e, quoted_len-pair b b (doubled inner ++ 39 ∷ after) e e)
      (omega (arith, two_more (quoted_len (doubled inner ++ 39 ∷ after)) (length (doubled inner) + 1) later))
  by_quote false e later =
      rw (doubled-other b inner e, quoted_len-other b (doubled inner ++ 39 ∷ after) e)
      (one_more (quoted_len (doubled inner ++ 39 ∷ after)) (length (doubled inner) + 1) _ (omega arith) later)

-- a text up to a place, behind its first quote and with its last one
pub record Closes (n : ℕ) (rest : List ℕ) : Type 0 where
  pub within : n ≤ length rest
  pub inner : List ℕ
  pub form : take n rest ≡ doubled inner ++ 39 ∷ []

quote_of : (b : ℕ) → is_quote b ≡ true → b ≡ 39
quote_of b e = eqb-true b 39 e

closes_at_once : (b : ℕ) (rest : List ℕ) → is_quote b ≡ true → Closes 1 (b ∷ rest)
closes_at_once b rest e = record { within = omega arith; inner = []; form = ap (λ x. x ∷ []) (quote_of b e) }

closes_behind : (b m : ℕ) (rest : List ℕ) → is_quote b ≡ false → Closes m rest → Closes (suc m) (b ∷ rest)
closes_behind b m rest e later = record {
  within = omega (arith, later.within);
  inner = b ∷ later.inner;
  form = ap (λ (l : List ℕ). b ∷ l) later.form ∙ ap (λ (l : List ℕ). l ++ 39 ∷ []) (sym (doubled-other b later.inner e));
}

closes_behind_pair : (b c m : ℕ) (rest : List ℕ) → is_quote b ≡ true → is_quote c ≡ true → Closes m rest → Closes (suc (suc m)) (b ∷ c ∷ rest)
closes_behind_pair b c m rest e f later =
    let same : c ≡ b = quote_of c f ∙ sym (quote_of b e) in
    record {
      within = omega (arith, later.within);
      inner = b ∷ later.inner;
      form = ap (λ x. b ∷ x ∷ take m rest) same ∙ ap (λ (l : List ℕ). b ∷ b ∷ l) later.form ∙ ap (λ (l : List ℕ). l ++ 39 ∷ []) (sym (doubled-quote b later.inner e));
    }

of_one : (n : ℕ) (rest : List ℕ) → Some 1 ≡ Some n → Closes 1 rest → Closes n rest
of_one n rest is here = let one : 1 ≡ n = cc in subst (λ k. Closes k rest) one here

after_other : (o : Option ℕ) (n b : ℕ) (rest : List ℕ) → is_quote b ≡ false → ((m : ℕ) → o ≡ Some m → Closes m rest) → longer_by 1 o ≡ Some n → Closes n (b ∷ rest)
after_other None n b rest e later is = cc
after_other (Some m) n b rest e later is =
    let next : suc m ≡ n = let same : m + 1 ≡ n = cc in omega arith in
    subst (λ k. Closes k (b ∷ rest)) next (closes_behind b m rest e (later m refl))

after_pair : (o : Option ℕ) (n b c : ℕ) (rest : List ℕ) → is_quote b ≡ true → is_quote c ≡ true → ((m : ℕ) → o ≡ Some m → Closes m rest)
    → Some (unwrap_or (longer_by 2 o) 1) ≡ Some n → Closes n (b ∷ c ∷ rest)
after_pair None n b c rest e f later is = of_one n (b ∷ c ∷ rest) is (closes_at_once b (c ∷ rest) e)
after_pair (Some m) n b c rest e f later is =
    let next : suc (suc m) ≡ n = let same : m + 2 ≡ n = cc in omega arith in
    subst (λ k. Closes k (b ∷ c ∷ rest)) next (closes_behind_pair b c m rest e f (later m refl))

last_byte : (q : Bool) (b n : ℕ) → is_quote b ≡ q → quoted_len (b ∷ []) ≡ Some n → Closes n (b ∷ [])
last_byte true b n e is = of_one n (b ∷ []) (sym (quoted_len-last b e) ∙ is) (closes_at_once b [] e)
last_byte false b n e is = let none : longer_by 1 None ≡ Some n = sym (quoted_len-other b [] e) ∙ is in cc

pub closes : (rest : List ℕ) (n : ℕ) → quoted_len rest ≡ Some n → Closes n rest
closes [] n is = cc
closes (b ∷ []) n is = last_byte (is_quote b) b n refl is
closes (b ∷ c ∷ rest) n is = by_quotes (is_quote b) (is_quote c) refl refl (closes rest) (closes (c ∷ rest)) where
  by_quotes : (q r : Bool) → is_quote b ≡ q → is_quote c ≡ r → ((m : ℕ) → quoted_len rest ≡ Some m → Closes m rest)
      → ((m : ℕ) → quoted_len (c ∷ rest) ≡ Some m → Closes m (c ∷ rest)) → Closes n (b ∷ c ∷ rest)
  by_quotes true true e f behind_pair behind = after_pair (quoted_len rest) n b c rest e f behind_pair (sym (quoted_len-pair b c rest e f) ∙ is)
  by_quotes true false e f behind_pair behind = of_one n (b ∷ c ∷ rest) (sym (quoted_len-closed b c rest e f) ∙ is) (closes_at_once b (c ∷ rest) e)
  by_quotes false r e f behind_pair behind = after_other (quoted_len (c ∷ rest)) n b (c ∷ rest) e behind (sym (quoted_len-other b (c ∷ rest) e) ∙ is)
