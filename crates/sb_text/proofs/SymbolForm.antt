-- The symbols: what `symbol_len` finds is one, and each is found.
use Rattle.std.proofs.Common.{◌≡◌, ◌≤◌, ℕ, Bool, true, false, ◌==◌, ◌&&◌, ◌||◌, ◌⊎◌, inl, inr, List, [], ◌∷◌, length, take, map, Contains, None, Some, refl, ap, sym, ◌∙◌, arith, subst}
use Rattle.std.specs.Option.{IsSomeAnd}
use Rattle.std.specs.List.{list_any}
use Rattle.std.proofs.lemmas.List.Elements.{Contains-append_left, Contains-append_right}
use Rattle.std.proofs.lemmas.Bool.{eqb-true}
use Rattle.std.specs.Prelude.{codes}
use Rattle.sb_text.specs.Bytes.{is_symbol, is_double, symbol_bytes}
use Rattle.sb_text.specs.Forms.{IsSymbol}
use Rattle.sb_text.specs.Front.{symbol_len}

pub symbol_len-double : (b c : ℕ) (rest : List ℕ) → is_double b c ≡ true → symbol_len b (c ∷ rest) ≡ Some 2
symbol_len-double b c rest e = rw e refl

pub symbol_len-single : (b c : ℕ) (rest : List ℕ) → is_double b c ≡ false → is_symbol b ≡ true → symbol_len b (c ∷ rest) ≡ Some 1
symbol_len-single b c rest e f = rw (e, f) refl

pub le-symbol_len : (b : ℕ) (rest : List ℕ) → is_symbol b ≡ true → IsSomeAnd (symbol_len b rest) (λ n. 1 ≤ n)
le-symbol_len b [] e = rw e (omega arith)
le-symbol_len b (c ∷ rest) e = by_double (is_double b c) refl where
  by_double : (d : Bool) → is_double b c ≡ d → IsSomeAnd (symbol_len b (c ∷ rest)) (λ n. 1 ≤ n)
  by_double true f = rw (symbol_len-double b c rest f) (omega arith)
  by_double false f = rw (symbol_len-single b c rest f e) (omega arith)

among : (b : ℕ) (bytes : List ℕ) → list_any (λ s. b == s) bytes ≡ true → Contains (map (λ s. s ∷ []) bytes) (b ∷ [])
among b [] e = cc
among b (s ∷ bytes) e = by_first (b == s) refl (among b bytes) where
  by_first : (q : Bool) → (b == s) ≡ q → (list_any (λ x. b == x) bytes ≡ true → Contains (map (λ x. x ∷ []) bytes) (b ∷ []))
      → Contains (map (λ x. x ∷ []) (s ∷ bytes)) (b ∷ [])
  by_first true f later = (0, omega arith, ap (λ x. x ∷ []) (sym (eqb-true b s f)))
  by_first false f later =
      let rest : list_any (λ x. b == x) bytes ≡ true = rw f at e in
      Contains-append_right ((s ∷ []) ∷ []) (map (λ x. x ∷ []) bytes) (b ∷ []) (later rest)

single_symbol : (b : ℕ) → is_symbol b ≡ true → IsSymbol (b ∷ [])
single_symbol b e = Contains-append_left (map (λ s. s ∷ []) symbol_bytes) (codes "<=" ∷ codes "<>" ∷ codes ">=" ∷ []) (b ∷ []) (among b symbol_bytes e)

of_tests : (p q r s : Bool) → ((p && (q || r)) || (s && q)) ≡ true → ((p ≡ true) × (q ≡ true)) ⊎ (((p ≡ true) × (r ≡ true)) ⊎ ((s ≡ true) × (q ≡ true)))
of_tests true true r s e = inl (refl, refl)
of_tests true false true s e = inr (inl (refl, refl))
of_tests true false false true e = cc
of_tests true false false false e = cc
of_tests false q r false e = cc
of_tests false true r true e = inr (inr (refl, refl))
of_tests false false r true e = cc

two : (b c x y : ℕ) → (b == x) ≡ true → (c == y) ≡ true → IsSymbol (x ∷ y ∷ []) → IsSymbol (b ∷ c ∷ [])
two b c x y e f is = rw (eqb-true b x e, eqb-true c y f) is

pub double_symbol : (b c : ℕ) → is_double b c ≡ true → IsSymbol (b ∷ c ∷ [])
double_symbol b c e =
    elim (of_tests (b == 60) (c == 61) (c == 62) (b == 62) e) [
      | inl t ↦ two b c 60 61 t.0 t.1 (17, omega arith, refl)
      | inr (inl t) ↦ two b c 60 62 t.0 t.1 (18, omega arith, refl)
      | inr (inr t) ↦ two b c 62 61 t.0 t.1 (19, omega arith, refl)
    ]

-- a symbol up to a place
pub record Symbols (n : ℕ) (bytes : List ℕ) : Type 0 where
  pub within : n ≤ length bytes
  pub form : IsSymbol (take n bytes)

of_len : (m n : ℕ) (bytes : List ℕ) → Some m ≡ Some n → Symbols m bytes → Symbols n bytes
of_len m n bytes is here = let same : m ≡ n = cc in subst (λ k. Symbols k bytes) same here

one : (b : ℕ) (rest : List ℕ) → is_symbol b ≡ true → Symbols 1 (b ∷ rest)
one b rest e = record { within = omega arith; form = single_symbol b e }

no_symbol : (b c : ℕ) (rest : List ℕ) → is_double b c ≡ false → is_symbol b ≡ false → symbol_len b (c ∷ rest) ≡ None
no_symbol b c rest e f = rw (e, f) refl

at_end : (q : Bool) (b n : ℕ) → is_symbol b ≡ q → symbol_len b [] ≡ Some n → Symbols n (b ∷ [])
at_end true b n e is = of_len 1 n (b ∷ []) (let found : symbol_len b [] ≡ Some 1 = rw e refl in sym found ∙ is) (one b [] e)
at_end false b n e is = let none : symbol_len b [] ≡ None = rw e refl in cc

with_next : (d q : Bool) (b c n : ℕ) (rest : List ℕ) → is_double b c ≡ d → is_symbol b ≡ q → symbol_len b (c ∷ rest) ≡ Some n → Symbols n (b ∷ c ∷ rest)
with_next true q b c n rest e f is =
    of_len 2 n (b ∷ c ∷ rest) (sym (symbol_len-double b c rest e) ∙ is) (record { within = omega arith; form = double_symbol b c e })
with_next false true b c n rest e f is = of_len 1 n (b ∷ c ∷ rest) (sym (symbol_len-single b c rest e f) ∙ is) (one b (c ∷ rest) f)
with_next false false b c n rest e f is = let none = no_symbol b c rest e f in cc

pub found_symbol : (b n : ℕ) (rest : List ℕ) → symbol_len b rest ≡ Some n → Symbols n (b ∷ rest)
found_symbol b n [] is = at_end (is_symbol b) b n refl is
found_symbol b n (c ∷ rest) is = with_next (is_double b c) (is_symbol b) b c n rest refl refl is
