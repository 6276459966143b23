-- The token that is found at the front is of its form, and no longer front is a token.
use Rattle.std.proofs.Common.{◌≡◌, ◌+◌, ◌≤◌, ℕ, Bool, true, false, not, ◌&&◌, nat_le, List, [], ◌∷◌, ◌++◌, length, take, drop, map, Option, None, Some, refl, ap, sym, ◌∙◌, arith, subst, add-one, length-append, append_assoc}
use Rattle.std.specs.Prelude.{codes}
use Rattle.std.specs.Option.{IsSomeAnd}
use Rattle.std.specs.List.{All, AllPass}
use Rattle.std.proofs.lemmas.Bool.{eqb-true}
use Rattle.std.proofs.lemmas.Bool.Decides.{nat_tests}
use Rattle.std.proofs.lemmas.List.Elements.{All-nil, All-cons, All-head, All-tail, All-map, All-append, All-contains, All-weaker}
use Rattle.std.proofs.lemmas.List.Sums.{AllPass-from_list_all}
use Rattle.std.proofs.lemmas.List.{take-append-drop, length-take, length-take-le}
use Rattle.sb_text.specs.declared.token.TokenKind.{TokenKind}
use Rattle.sb_text.specs.declared.token.TokenKind.TheVariants.{Word, Number, Text, Symbol}
use Rattle.sb_text.specs.Bytes.{begins_word, is_digit, is_in_word, is_quote, is_symbol, is_double, symbol_bytes}
use Rattle.sb_text.specs.Forms.{IsWord, IsNumber, IsToken, doubled, quoted, symbols}
use Rattle.sb_text.specs.Front.{run, token_at, number_len, kind_and_len, longer_by, quoted_len, symbol_len, IsLongest, NoneBegins}
use Rattle.sb_text.proofs.Runs.{le-run, run-all, Splits, run-splits}
use Rattle.sb_text.proofs.TextForm.{le-quoted_len, Closes, closes}
use Rattle.sb_text.proofs.SymbolForm.{le-symbol_len, symbol_len-double, Symbols, found_symbol as symbols_at}

-- the four cases of the byte at the front

pub token_at-word : (b : ℕ) (rest : List ℕ) → begins_word b ≡ true → token_at (b ∷ rest) ≡ Some (Word, run is_in_word rest + 1)
token_at-word b rest e = rw e refl

digit_is_no_letter : (b : ℕ) → is_digit b ≡ true → begins_word b ≡ false
digit_is_no_letter b e = grind (arith, nat_tests)

pub token_at-number : (b : ℕ) (rest : List ℕ) → is_digit b ≡ true → token_at (b ∷ rest) ≡ kind_and_len Number (number_len (run is_digit rest + 1))
token_at-number b rest e = rw (digit_is_no_letter b e, e) refl

pub token_at-text : (rest : List ℕ) → token_at (39 ∷ rest) ≡ kind_and_len Text (longer_by 1 (quoted_len rest))
token_at-text rest = refl

pub token_at-other : (b : ℕ) (rest : List ℕ) → begins_word b ≡ false → is_digit b ≡ false → is_quote b ≡ false → token_at (b ∷ rest) ≡ kind_and_len Symbol (symbol_len b rest)
token_at-other b rest e f g = rw (e, f, g) refl

-- a front that is a token is no longer than the one that is found

abbrev AtLeast : TokenKind → ℕ → List ℕ → Type 0
AtLeast kind n bytes = IsSomeAnd (token_at bytes) (λ found. (found.0 ≡ kind) × (n ≤ found.1))

of_len : (kind : TokenKind) (o : Option ℕ) (n : ℕ) → IsSomeAnd o (λ m. n ≤ m) → IsSomeAnd (kind_and_len kind o) (λ found. (found.0 ≡ kind) × (n ≤ found.1))
of_len kind None n some = absurd some
of_len kind (Some m) n some = (refl, some)

one_more : (o : Option ℕ) (k m : ℕ) → m ≡ k + 1 → IsSomeAnd o (λ n. k ≤ n) → IsSomeAnd (longer_by 1 o) (λ n. m ≤ n)
one_more None k m is some = absurd some
one_more (Some n) k m is some = omega arith

word_most : (front after : List ℕ) → IsWord front → AtLeast Word (length front) (front ++ after)
word_most [] after is = absurd is
word_most (b ∷ front) after is = rw (token_at-word b (front ++ after) is.0) (refl, omega (arith, le-run is_in_word front after is.1))

number_fits : (n m : ℕ) → n ≡ m → n ≤ 19 → IsSomeAnd (number_len n) (λ k. m ≤ k)
number_fits n m same few = let test : nat_le n 19 ≡ true = grind (arith, nat_tests) in rw test (omega arith)

number_most : (front after : List ℕ) → IsNumber front after → AtLeast Number (length front) (front ++ after)
number_most [] after is = absurd (omega (arith, is.some))
number_most (b ∷ front) after is =
    let first : is_digit b ≡ true = All-head (λ x. is_digit x ≡ true) b front is.digits in
    let rest : AllPass is_digit front = All-tail (λ x. is_digit x ≡ true) b front is.digits in
    let count = run-all is_digit front after rest is.alone in
    rw (token_at-number b (front ++ after) first)
    (of_len Number (number_len (run is_digit (front ++ after) + 1)) (length (b ∷ front)) (number_fits (run is_digit (front ++ after) + 1) (length (b ∷ front)) (omega (arith, count)) (omega (arith, count, is.few))))

text_most : (inner after : List ℕ) → AtLeast Text (length (quoted inner)) (quoted inner ++ after)
text_most inner after =
    rw (append_assoc (doubled inner) (39 ∷ []) after)
    (of_len Text (longer_by 1 (quoted_len (doubled inner ++ 39 ∷ after))) (length (quoted inner))
    (one_more (quoted_len (doubled inner ++ 39 ∷ after)) (length (doubled inner) + 1) (length (quoted inner)) (omega (arith, length-append (doubled inner) (39 ∷ []))) (le-quoted_len inner after)))

abbrev pub is_single : ℕ → Bool
is_single b = is_symbol b && (not (begins_word b) && (not (is_digit b) && not (is_quote b)))

pub record Single (b : ℕ) : Type 0 where
  pub symbol : is_symbol b ≡ true
  pub word : begins_word b ≡ false
  pub digit : is_digit b ≡ false
  pub quote : is_quote b ≡ false

single_from : (p q r s : Bool) → (p && (not q && (not r && not s))) ≡ true → (p ≡ true) × (q ≡ false) × (r ≡ false) × (s ≡ false)
single_from true false false false e = (refl, refl, refl, refl)
single_from true false false true e = cc
single_from true false true s e = cc
single_from true true r s e = cc
single_from false q r s e = cc

pub single_tests : (b : ℕ) → is_single b ≡ true → Single b
single_tests b e =
    let t = single_from (is_symbol b) (begins_word b) (is_digit b) (is_quote b) e in
    record { symbol = t.0; word = t.1; digit = t.2; quote = t.3 }

abbrev SymbolMost : List ℕ → List ℕ → Type 0
SymbolMost after front = AtLeast Symbol (length front) (front ++ after)

single_most : (after : List ℕ) (b : ℕ) → is_single b ≡ true → SymbolMost after (b ∷ [])
single_most after b e =
    let s = single_tests b e in
    rw (token_at-other b after s.word s.digit s.quote) (of_len Symbol (symbol_len b after) 1 (le-symbol_len b after s.symbol))

double_most : (after : List ℕ) (b c : ℕ) → begins_word b ≡ false → is_digit b ≡ false → is_quote b ≡ false → is_double b c ≡ true → SymbolMost after (b ∷ c ∷ [])
double_most after b c e f g h = rw (token_at-other b (c ∷ after) e f g, symbol_len-double b c after h) (refl, omega arith)

each_symbol_most : (after : List ℕ) → All (SymbolMost after) symbols
each_symbol_most after =
    All-append (SymbolMost after) (map (λ b. b ∷ []) symbol_bytes) (codes "<=" ∷ codes "<>" ∷ codes ">=" ∷ [])
    (All-map (SymbolMost after) (λ b. b ∷ []) symbol_bytes
    (All-weaker (λ b. is_single b ≡ true) (λ b. SymbolMost after (b ∷ [])) (single_most after) symbol_bytes (AllPass-from_list_all is_single symbol_bytes refl)))
    (All-cons (SymbolMost after) (codes "<=") (codes "<>" ∷ codes ">=" ∷ []) (double_most after 60 61 refl refl refl refl)
    (All-cons (SymbolMost after) (codes "<>") (codes ">=" ∷ []) (double_most after 60 62 refl refl refl refl)
    (All-cons (SymbolMost after) (codes ">=") [] (double_most after 62 61 refl refl refl refl) (All-nil (SymbolMost after)))))

most : (kind : TokenKind) (front after : List ℕ) → IsToken kind front after → AtLeast kind (length front) (front ++ after)
most Word front after is = word_most front after is
most Number front after is = number_most front after is
most Text front after is = rw is.1 (text_most is.0 after)
most Symbol front after is = All-contains (SymbolMost after) symbols front (each_symbol_most after) is

-- what is found is of its form

pub record Finds (kind : TokenKind) (len : ℕ) (bytes : List ℕ) : Type 0 where
  pub within : len ≤ length bytes
  pub form : IsToken kind (take len bytes) (drop len bytes)

found_word : (b : ℕ) (rest : List ℕ) → begins_word b ≡ true → Finds Word (run is_in_word rest + 1) (b ∷ rest)
found_word b rest e =
    let s = run-splits is_in_word rest in
    rw add-one (record { within = omega (arith, s.within); form = (e, s.passes) })

number_form : (b : ℕ) (rest : List ℕ) → is_digit b ≡ true → run is_digit rest + 1 ≤ 19 → Splits is_digit rest
    → IsNumber (b ∷ take (run is_digit rest) rest) (drop (run is_digit rest) rest)
number_form b rest e few s = record {
  some = omega arith;
  few = omega (arith, length-take (run is_digit rest) rest);
  digits = All-cons (λ x. is_digit x ≡ true) b (take (run is_digit rest) rest) e s.passes;
  alone = s.stops;
}

found_number : (b : ℕ) (rest : List ℕ) → is_digit b ≡ true → run is_digit rest + 1 ≤ 19 → Finds Number (run is_digit rest + 1) (b ∷ rest)
found_number b rest e few =
    let s = run-splits is_digit rest in
    rw add-one (record { within = omega (arith, s.within); form = number_form b rest e few s })

found_text : (n : ℕ) (rest : List ℕ) → Closes n rest → Finds Text (n + 1) (39 ∷ rest)
found_text n rest c = rw add-one (record { within = omega (arith, c.within); form = (c.inner, ap (λ (l : List ℕ). 39 ∷ l) c.form) })

found_symbol : (n : ℕ) (bytes : List ℕ) → Symbols n bytes → Finds Symbol n bytes
found_symbol n bytes s = record { within = s.within; form = s.form }

finds_at : (kind other : TokenKind) (len n : ℕ) (bytes : List ℕ) (found : Option (TokenKind × ℕ)) → found ≡ Some (other, n) → found ≡ Some (kind, len)
    → Finds other n bytes → Finds kind len bytes
finds_at kind other len n bytes found this is here =
    let there : TokenKind × ℕ = (other, n) in
    let wanted : TokenKind × ℕ = (kind, len) in
    let pairs : there ≡ wanted = cc in
    let P : TokenKind × ℕ → Type 0 = λ p. Finds p.0 p.1 bytes in
    subst P pairs here

number_at : (kind : TokenKind) (n len : ℕ) (q : Bool) (bytes : List ℕ) → nat_le n 19 ≡ q → kind_and_len Number (number_len n) ≡ Some (kind, len)
    → (n ≤ 19 → Finds Number n bytes) → Finds kind len bytes
number_at kind n len true bytes e is here =
    let few : n ≤ 19 = grind (arith, nat_tests) in
    finds_at kind Number len n bytes (kind_and_len Number (number_len n)) (rw e refl) is (here few)
number_at kind n len false bytes e is here =
    let none : kind_and_len Number (number_len n) ≡ None = rw e refl in
    cc

len_at : (kind other : TokenKind) (o : Option ℕ) (len : ℕ) (bytes : List ℕ) → kind_and_len other o ≡ Some (kind, len)
    → ((n : ℕ) → o ≡ Some n → Finds other n bytes) → Finds kind len bytes
len_at kind other None len bytes is here = cc
len_at kind other (Some n) len bytes is here = finds_at kind other len n bytes (kind_and_len other (Some n)) refl is (here n refl)

text_at : (o : Option ℕ) (rest : List ℕ) → ((n : ℕ) → o ≡ Some n → Closes n rest) → (n : ℕ) → longer_by 1 o ≡ Some n → Finds Text n (39 ∷ rest)
text_at None rest here n is = cc
text_at (Some m) rest here n is =
    let same : m + 1 ≡ n = cc in
    subst (λ k. Finds Text k (39 ∷ rest)) same (found_text m rest (here m refl))

finds : (kind : TokenKind) (len : ℕ) (bytes : List ℕ) → token_at bytes ≡ Some (kind, len) → Finds kind len bytes
finds kind len [] is = cc
finds kind len (b ∷ rest) is = by_first (begins_word b) (is_digit b) (is_quote b) refl refl refl where
  by_first : (w d q : Bool) → begins_word b ≡ w → is_digit b ≡ d → is_quote b ≡ q → Finds kind len (b ∷ rest)
  by_first true d q e f g =
      finds_at kind Word len (run is_in_word rest + 1) (b ∷ rest) (token_at (b ∷ rest)) (token_at-word b rest e) is (found_word b rest e)
  by_first false true q e f g =
      number_at kind (run is_digit rest + 1) len (nat_le (run is_digit rest + 1) 19) (b ∷ rest) refl (sym (token_at-number b rest f) ∙ is) (found_number b rest f)
  by_first false false true e f g =
      let quote : 39 ≡ b = sym (eqb-true b 39 g) in
      let at_quote : token_at (39 ∷ rest) ≡ Some (kind, len) = ap (λ x. token_at (x ∷ rest)) quote ∙ is in
      subst (λ x. Finds kind len (x ∷ rest)) quote
      (len_at kind Text (longer_by 1 (quoted_len rest)) len (39 ∷ rest) (sym (token_at-text rest) ∙ at_quote) (text_at (quoted_len rest) rest (closes rest)))
  by_first false false false e f g =
      len_at kind Symbol (symbol_len b rest) len (b ∷ rest) (sym (token_at-other b rest e f g) ∙ is) (λ n found. found_symbol n (b ∷ rest) (symbols_at b n rest found))

-- the exact law

no_longer : (found : Option (TokenKind × ℕ)) (kind other : TokenKind) (len n : ℕ) → found ≡ Some (kind, len)
    → IsSomeAnd found (λ f. (f.0 ≡ other) × (n ≤ f.1)) → n ≤ len
no_longer None kind other len n is some = absurd some
no_longer (Some f) kind other len n is some =
    let wanted : TokenKind × ℕ = (kind, len) in
    let pairs : f ≡ wanted = cc in
    let same : f.1 ≡ len = ap (λ (p : TokenKind × ℕ). p.1) pairs in
    let least = some.1 in
    omega arith

most_of : (bytes : List ℕ) (kind : TokenKind) (front after : List ℕ) → front ++ after ≡ bytes → IsToken kind front after → AtLeast kind (length front) bytes
most_of bytes kind front after whole token = subst (λ (b : List ℕ). AtLeast kind (length front) b) whole (most kind front after token)

pub longest : (bytes : List ℕ) (kind : TokenKind) (len : ℕ) → token_at bytes ≡ Some (kind, len) → IsLongest kind len bytes
longest bytes kind len is =
    let f = finds kind len bytes is in
    record {
      within = f.within;
      form = f.form;
      longest = λ other front after whole token. no_longer (token_at bytes) kind other len (length front) is (most_of bytes other front after whole token);
    }

only : (bytes : List ℕ) (kind : TokenKind) (len : ℕ) (found : Option (TokenKind × ℕ)) → token_at bytes ≡ found → IsLongest kind len bytes
    → IsSomeAnd found (λ f. (f.0 ≡ kind) × (len ≤ f.1)) → found ≡ Some (kind, len)
only bytes kind len None is l some = absurd some
only bytes kind len (Some f) is l some =
    let other = longest bytes f.0 f.1 is in
    let less = l.longest f.0 (take f.1 bytes) (drop f.1 bytes) (take-append-drop f.1 bytes) other.form in
    let same : f.1 ≡ len = omega (arith, less, some.1, length-take-le f.1 bytes other.within) in
    rw (← some.0, ← same) refl

pub longest-token_at : (bytes : List ℕ) (kind : TokenKind) (len : ℕ) → IsLongest kind len bytes → token_at bytes ≡ Some (kind, len)
longest-token_at bytes kind len l =
    let some = most_of bytes kind (take len bytes) (drop len bytes) (take-append-drop len bytes) l.form in
    let long : length (take len bytes) ≡ len = length-take-le len bytes l.within in
    only bytes kind len (token_at bytes) refl l (rw long at some)

not_none : (found : Option (TokenKind × ℕ)) (kind : TokenKind) (n : ℕ) → found ≡ None → IsSomeAnd found (λ f. (f.0 ≡ kind) × (n ≤ f.1)) → ⊥
not_none None kind n is some = some
not_none (Some f) kind n is some = cc

pub none_begins : (bytes : List ℕ) → token_at bytes ≡ None → NoneBegins bytes
none_begins bytes is kind front after whole token = not_none (token_at bytes) kind (length front) is (most_of bytes kind front after whole token)

none_found : (bytes : List ℕ) (found : Option (TokenKind × ℕ)) → token_at bytes ≡ found → NoneBegins bytes → token_at bytes ≡ None
none_found bytes None is none = is
none_found bytes (Some f) is none =
    let l = finds f.0 f.1 bytes is in
    absurd (none f.0 (take f.1 bytes) (drop f.1 bytes) (take-append-drop f.1 bytes) l.form)

pub none-token_at : (bytes : List ℕ) → NoneBegins bytes → token_at bytes ≡ None
none-token_at bytes none = none_found bytes (token_at bytes) refl none
