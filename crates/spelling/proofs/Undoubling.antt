-- A text says what stands between its quotes.
use Rattle.std.proofs.Common.{◌≡◌, ℕ, ◌+◌, ◌<◌, ◌≤◌, Bool, true, false, ◌==◌, List, [], ◌∷◌, ◌++◌, length, drop, get_or, drop-cons, length-drop, refl, ap, sym, ◌∙◌, eq-eqb, inl, inr, arith, suc, append_assoc}
use Rattle.std.proofs.lemmas.Bool.{eqb-true}
use Rattle.std.proofs.lemmas.Bool.Decides.{eqb_tells}
use Rattle.sb_text.specs.Forms.{doubled}
use Rattle.spelling.specs.Lexemes.{undoubled}

undoubled-other : (b : ℕ) (rest : List ℕ) → (b == 39) ≡ false → undoubled (b ∷ (doubled rest ++ 39 ∷ [])) ≡ b ∷ undoubled (doubled rest ++ 39 ∷ [])
undoubled-other b rest not = at_list (doubled rest)
  where
    at_list : (xs : List ℕ) → undoubled (b ∷ (xs ++ 39 ∷ [])) ≡ b ∷ undoubled (xs ++ 39 ∷ [])
    at_list [] = rw not refl
    at_list (x ∷ xs) = rw not refl

pub undoubled-doubled : (inner : List ℕ) → undoubled (doubled inner ++ 39 ∷ []) ≡ inner
undoubled-doubled [] = refl
undoubled-doubled (b ∷ rest) = at_test (b == 39) refl (undoubled-doubled rest)
  where
    at_test : (test : Bool) → (b == 39) ≡ test → undoubled (doubled rest ++ 39 ∷ []) ≡ rest → undoubled (doubled (b ∷ rest) ++ 39 ∷ []) ≡ b ∷ rest
    at_test true is more =
        let e = eqb-true b 39 is in
        rw (is, is) (ap (λ l. 39 ∷ l) more ∙ ap (λ x. x ∷ rest) (sym e))
    at_test false is more = rw is (undoubled-other b rest is ∙ ap (λ l. b ∷ l) more)

eqb-ne : (a b : ℕ) → (a ≡ b → ⊥) → (a == b) ≡ false
eqb-ne a b ne = elim (eqb_tells a b) [ inl t ↦ absurd (ne t.1) | inr f ↦ f.0 ]

-- one byte more, by its place
at_cons : (written : List ℕ) (at : ℕ) → at + 1 < length written → drop at written ≡ get_or written at 0 ∷ get_or written (at + 1) 0 ∷ drop (at + 2) written
at_cons written at lt =
    let here : at < length written = omega arith in
    let next : suc at < length written = omega arith in
    let one : suc at ≡ at + 1 = omega arith in
    let two : suc (suc at) ≡ at + 2 = omega arith in
    drop-cons written at 0 here ∙ ap (λ l. get_or written at 0 ∷ l) (drop-cons written (suc at) 0 next)
    ∙ ap (λ i. get_or written at 0 ∷ get_or written i 0 ∷ drop (suc (suc at)) written) one
    ∙ ap (λ i. get_or written at 0 ∷ get_or written (at + 1) 0 ∷ drop i written) two

pub undoubled-quote : (written : List ℕ) (at : ℕ) → at + 1 < length written → get_or written at 0 ≡ 39 → undoubled (drop at written) ≡ get_or written at 0 ∷ undoubled (drop (at + 2) written)
undoubled-quote written at lt quote =
    ap (λ l. undoubled l) (at_cons written at lt) ∙ rw (eq-eqb (get_or written at 0) 39 quote) (ap (λ b. b ∷ undoubled (drop (at + 2) written)) (sym quote))

pub undoubled-byte : (written : List ℕ) (at : ℕ) → at + 1 < length written → (get_or written at 0 ≡ 39 → ⊥) → undoubled (drop at written) ≡ get_or written at 0 ∷ undoubled (drop (at + 1) written)
undoubled-byte written at lt other =
    let next : suc at < length written = omega arith in
    let one : suc at ≡ at + 1 = omega arith in
    let two : suc (suc at) ≡ at + 2 = omega arith in
    let rest : drop (at + 1) written ≡ get_or written (at + 1) 0 ∷ drop (at + 2) written =
    ap (λ i. drop i written) (sym one) ∙ drop-cons written (suc at) 0 next ∙ ap (λ i. get_or written i 0 ∷ drop (suc (suc at)) written) one ∙ ap (λ i. get_or written (at + 1) 0 ∷ drop i written) two
    in
    ap (λ l. undoubled l) (at_cons written at lt) ∙ rw (eqb-ne (get_or written at 0) 39 other) (ap (λ l. get_or written at 0 ∷ undoubled l) (sym rest))

pub undoubled-end : (written : List ℕ) (at : ℕ) → length written ≤ at + 1 → undoubled (drop at written) ≡ []
undoubled-end written at le = short (drop at written) (omega (arith, length-drop at written))
  where
    short : (bytes : List ℕ) → length bytes ≤ 1 → undoubled bytes ≡ []
    short [] le = refl
    short (b ∷ []) le = refl
    short (b ∷ c ∷ bytes) le = absurd (omega (arith, le))

-- a loop that pushed one byte more
pub pushed : (bytes more rest rest' whole : List ℕ) (b : ℕ) → more ≡ bytes ++ b ∷ [] → rest ≡ b ∷ rest' → bytes ++ rest ≡ whole → more ++ rest' ≡ whole
pushed bytes more rest rest' whole b is step before = rw is (append_assoc bytes (b ∷ []) rest') ∙ ap (λ l. bytes ++ l) (sym step) ∙ before
