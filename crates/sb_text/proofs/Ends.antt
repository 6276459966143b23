-- Where a token ends: what follows it does not go on with it.
use Rattle.std.proofs.Common.{◌≡◌, ◌+◌, ◌≤◌, ℕ, Bool, true, false, nat_le, List, [], ◌∷◌, ◌++◌, length, map, Option, Some, refl, ap, arith, length-append, append_assoc}
use Rattle.std.specs.Prelude.{codes}
use Rattle.std.specs.List.{All, AllPass}
use Rattle.std.proofs.lemmas.Bool.Decides.{nat_tests}
use Rattle.std.proofs.lemmas.List.Elements.{All-nil, All-cons, All-head, All-tail, All-map, All-append, All-contains, All-weaker}
use Rattle.std.proofs.lemmas.List.Sums.{AllPass-from_list_all}
use Rattle.sb_text.specs.declared.token.TokenKind.{TokenKind}
use Rattle.sb_text.specs.declared.token.TokenKind.TheVariants.{Word, Number, Text, Symbol}
use Rattle.sb_text.specs.Bytes.{is_digit, is_in_word, is_quote, is_symbol, is_double, begins_word, symbol_bytes}
use Rattle.sb_text.specs.Forms.{IsWord, IsNumber, IsSymbol, NotFirst, NoDouble, doubled, quoted, symbols}
use Rattle.sb_text.specs.Front.{run, token_at, number_len, kind_and_len, longer_by, quoted_len, symbol_len}
use Rattle.sb_text.proofs.Quoted.{quoted_len-other, quoted_len-pair, quoted_len-closed}
use Rattle.sb_text.proofs.Runs.{run-all}
use Rattle.sb_text.proofs.TextForm.{doubled-quote, doubled-other}
use Rattle.sb_text.proofs.SymbolForm.{symbol_len-double, symbol_len-single}
use Rattle.sb_text.proofs.Longest.{token_at-word, token_at-number, token_at-other, single_tests, is_single}

-- this token stands at the front
abbrev pub Stands : TokenKind → List ℕ → List ℕ → Type 0
Stands kind front after = token_at (front ++ after) ≡ Some (kind, length front)

pub word_ends : (front after : List ℕ) → IsWord front → NotFirst is_in_word after → Stands Word front after
word_ends [] after is none = absurd is
word_ends (b ∷ front) after is none =
    let len : run is_in_word (front ++ after) + 1 ≡ length (b ∷ front) = omega (arith, run-all is_in_word front after is.1 none) in
    rw (token_at-word b (front ++ after) is.0, len) refl

number_stands : (n m : ℕ) → n ≡ m → m ≤ 19 → kind_and_len Number (number_len n) ≡ Some (Number, m)
number_stands n m same few = let test : nat_le n 19 ≡ true = grind (arith, nat_tests) in rw (test, same) refl

pub number_ends : (front after : List ℕ) → IsNumber front after → Stands Number front after
number_ends [] after is = absurd (omega (arith, is.some))
number_ends (b ∷ front) after is =
    let first : is_digit b ≡ true = All-head (λ x. is_digit x ≡ true) b front is.digits in
    let rest : AllPass is_digit front = All-tail (λ x. is_digit x ≡ true) b front is.digits in
    let len : run is_digit (front ++ after) + 1 ≡ length (b ∷ front) = omega (arith, run-all is_digit front after rest is.alone) in
    rw (token_at-number b (front ++ after) first) (number_stands (run is_digit (front ++ after) + 1) (length (b ∷ front)) len is.few)

pub quoted_len-doubled : (inner after : List ℕ) → NotFirst is_quote after → quoted_len (doubled inner ++ 39 ∷ after) ≡ Some (length (doubled inner) + 1)
quoted_len-doubled [] [] none = refl
quoted_len-doubled [] (c ∷ rest) none = quoted_len-closed 39 c rest refl none
quoted_len-doubled (b ∷ inner) after none = by_quote (is_quote b) refl (quoted_len-doubled inner after none) where
  by_quote : (q : Bool) → is_quote b ≡ q → quoted_len (doubled inner ++ 39 ∷ after) ≡ Some (length (doubled inner) + 1)
      → quoted_len (doubled (b ∷ inner) ++ 39 ∷ after) ≡ Some (length (doubled (b ∷ inner)) + 1)
  by_quote true e later = rw (doubled-quote b inner e, quoted_len-pair b b (doubled inner ++ 39 ∷ after) e e, later) (ap (λ n. Some n) (omega arith))
  by_quote false e later = rw (doubled-other b inner e, quoted_len-other b (doubled inner ++ 39 ∷ after) e, later) (ap (λ n. Some n) (omega arith))

text_stands : (o : Option ℕ) (n m : ℕ) → o ≡ Some n → n + 1 ≡ m → kind_and_len Text (longer_by 1 o) ≡ Some (Text, m)
text_stands o n m is same = rw (is, same) refl

pub text_ends : (inner after : List ℕ) → NotFirst is_quote after → Stands Text (quoted inner) after
text_ends inner after none =
    rw (append_assoc (doubled inner) (39 ∷ []) after)
    (text_stands (quoted_len (doubled inner ++ 39 ∷ after)) (length (doubled inner) + 1) (length (quoted inner)) (quoted_len-doubled inner after none) (omega (arith, length-append (doubled inner) (39 ∷ []))))

symbol_len-ends : (b : ℕ) (after : List ℕ) → is_symbol b ≡ true → NoDouble (b ∷ []) after → symbol_len b after ≡ Some 1
symbol_len-ends b [] e none = rw e refl
symbol_len-ends b (c ∷ rest) e none = symbol_len-single b c rest none e

abbrev SymbolStands : List ℕ → List ℕ → Type 0
SymbolStands after front = NoDouble front after → Stands Symbol front after

single_stands : (after : List ℕ) (b : ℕ) → is_single b ≡ true → SymbolStands after (b ∷ [])
single_stands after b e none =
    let s = single_tests b e in
    rw (token_at-other b after s.word s.digit s.quote, symbol_len-ends b after s.symbol none) refl

double_stands : (after : List ℕ) (b c : ℕ) → begins_word b ≡ false → is_digit b ≡ false → is_quote b ≡ false → is_double b c ≡ true → SymbolStands after (b ∷ c ∷ [])
double_stands after b c e f g h none = rw (token_at-other b (c ∷ after) e f g, symbol_len-double b c after h) refl

each_stands : (after : List ℕ) → All (SymbolStands after) symbols
each_stands after =
    All-append (SymbolStands after) (map (λ b. b ∷ []) symbol_bytes) (codes "<=" ∷ codes "<>" ∷ codes ">=" ∷ [])
    (All-map (SymbolStands after) (λ b. b ∷ []) symbol_bytes
    (All-weaker (λ b. is_single b ≡ true) (λ b. SymbolStands after (b ∷ [])) (single_stands after) symbol_bytes (AllPass-from_list_all is_single symbol_bytes refl)))
    (All-cons (SymbolStands after) (codes "<=") (codes "<>" ∷ codes ">=" ∷ []) (double_stands after 60 61 refl refl refl refl)
    (All-cons (SymbolStands after) (codes "<>") (codes ">=" ∷ []) (double_stands after 60 62 refl refl refl refl)
    (All-cons (SymbolStands after) (codes ">=") [] (double_stands after 62 61 refl refl refl refl) (All-nil (SymbolStands after)))))

pub symbol_ends : (front after : List ℕ) → IsSymbol front → NoDouble front after → Stands Symbol front after
symbol_ends front after is none = All-contains (SymbolStands after) symbols front (each_stands after) is none
