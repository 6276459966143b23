-- White space and comments at the front.
use Rattle.std.proofs.Common.{◌≡◌, ◌+◌, ◌<◌, ℕ, Bool, true, false, ◌==◌, ◌||◌, List, [], ◌∷◌, ◌++◌, length, take, drop, None, Some, refl, ap, sym, arith, subst}
use Rattle.std.proofs.lemmas.Bool.{eqb-true}
use Rattle.std.proofs.lemmas.List.{take-append-drop}
use Rattle.sb_text.specs.declared.token.TokenKind.{TokenKind}
use Rattle.sb_text.specs.Bytes.{is_blank, begins_word, is_digit, is_quote, is_symbol, is_double}
use Rattle.sb_text.specs.Front.{run, in_comment, gap_at, token_at, symbol_len}
use Rattle.sb_text.specs.Reading.{IsGap}
use Rattle.sb_text.proofs.Runs.{run-all, run-splits}
use Rattle.sb_text.proofs.Longest.{token_at-other}

pub gap_at-blank : (b : ℕ) (rest : List ℕ) → is_blank b ≡ true → gap_at (b ∷ rest) ≡ 1
gap_at-blank b rest e = rw e refl

pub gap_at-comment : (rest : List ℕ) → gap_at (35 ∷ rest) ≡ run in_comment rest + 1
gap_at-comment rest = refl

pub gap_at-none : (b : ℕ) (rest : List ℕ) → is_blank b ≡ false → (b == 35) ≡ false → gap_at (b ∷ rest) ≡ 0
gap_at-none b rest e f = rw (e, f) refl

pub gap_at-gap : (front after : List ℕ) → IsGap front after → (gap_at (front ++ after) ≡ length front) × (0 < length front)
gap_at-gap front after (IsGap.blank b is white) = rw is (gap_at-blank b after white, omega arith)
gap_at-gap front after (IsGap.comment text is inside ends) = rw is (omega (arith, run-all in_comment text after inside ends), omega arith)

-- the gap at the front, where there is one
pub record Gap (bytes : List ℕ) : Type 0 where
  pub front : List ℕ
  pub after : List ℕ
  pub whole : front ++ after ≡ bytes
  pub is : IsGap front after

pub blank_gap : (b : ℕ) (rest : List ℕ) → is_blank b ≡ true → Gap (b ∷ rest)
blank_gap b rest e = record { front = b ∷ []; after = rest; whole = refl; is = IsGap.blank b refl e }

pub comment_gap : (rest : List ℕ) → Gap (35 ∷ rest)
comment_gap rest =
    let s = run-splits in_comment rest in
    let n = run in_comment rest in
    record {
      front = 35 ∷ take n rest;
      after = drop n rest;
      whole = ap (λ (l : List ℕ). 35 ∷ l) (take-append-drop n rest);
      is = IsGap.comment (take n rest) refl s.passes s.stops;
    }

no_symbol_len : (b : ℕ) (rest : List ℕ) → is_symbol b ≡ false → ((c : ℕ) → is_double b c ≡ false) → symbol_len b rest ≡ None
no_symbol_len b [] e f = rw e refl
no_symbol_len b (c ∷ rest) e f = rw (f c, e) refl

four : (p q r s : Bool) (b x y z u : ℕ) (P : ℕ → Type 0) → (b == x) ≡ p → (b == y) ≡ q → (b == z) ≡ r → (b == u) ≡ s → (p || q || r || s) ≡ true → P x → P y → P z → P u → P b
four true q r s b x y z u P e f g h some px py pz pu = subst P (sym (eqb-true b x e)) px
four false true r s b x y z u P e f g h some px py pz pu = subst P (sym (eqb-true b y f)) py
four false false true s b x y z u P e f g h some px py pz pu = subst P (sym (eqb-true b z g)) pz
four false false false true b x y z u P e f g h some px py pz pu = subst P (sym (eqb-true b u h)) pu
four false false false false b x y z u P e f g h some px py pz pu = cc

none_at : (b : ℕ) (rest : List ℕ) → begins_word b ≡ false → is_digit b ≡ false → is_quote b ≡ false → is_symbol b ≡ false → ((c : ℕ) → is_double b c ≡ false)
    → token_at (b ∷ rest) ≡ None
none_at b rest e f g h i = rw (token_at-other b rest e f g, no_symbol_len b rest h i) refl

pub blank_no_token : (b : ℕ) (rest : List ℕ) → is_blank b ≡ true → token_at (b ∷ rest) ≡ None
blank_no_token b rest e =
    four (b == 32) (b == 9) (b == 13) (b == 10) b 32 9 13 10 (λ x. token_at (x ∷ rest) ≡ None) refl refl refl refl e
    (none_at 32 rest refl refl refl refl (λ c. refl)) (none_at 9 rest refl refl refl refl (λ c. refl))
    (none_at 13 rest refl refl refl refl (λ c. refl)) (none_at 10 rest refl refl refl refl (λ c. refl))

pub comment_no_token : (rest : List ℕ) → token_at (35 ∷ rest) ≡ None
comment_no_token rest = none_at 35 rest refl refl refl refl (λ c. refl)

token_no_gap_at : (p q : Bool) (b : ℕ) (rest : List ℕ) (found : TokenKind × ℕ) → is_blank b ≡ p → (b == 35) ≡ q → token_at (b ∷ rest) ≡ Some found → gap_at (b ∷ rest) ≡ 0
token_no_gap_at true q b rest found e f is = let none = blank_no_token b rest e in cc
token_no_gap_at false true b rest found e f is =
    let none : token_at (b ∷ rest) ≡ None = rw (eqb-true b 35 f) (comment_no_token rest) in cc
token_no_gap_at false false b rest found e f is = gap_at-none b rest e f

pub token_no_gap : (b : ℕ) (rest : List ℕ) (found : TokenKind × ℕ) → token_at (b ∷ rest) ≡ Some found → gap_at (b ∷ rest) ≡ 0
token_no_gap b rest found is = token_no_gap_at (is_blank b) (b == 35) b rest found refl refl is
