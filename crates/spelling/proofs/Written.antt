-- A lexeme as it is written is a token that says it.
use Rattle.std.proofs.Common.{◌≡◌, ◌≤◌, ◌<◌, ◌^◌, ℕ, Bool, true, false, ◌==◌, List, [], ◌∷◌, ◌++◌, length, get_or, map, refl, ap, arith}
use Rattle.std.specs.Prelude.{codes, decimal}
use Rattle.std.specs.List.{AllPass}
use Rattle.std.specs.Str.Parse.{AllDigits}
use Rattle.std.proofs.lemmas.Bool.{eqb-true}
use Rattle.std.proofs.lemmas.Bool.Decides.{nat_tests}
use Rattle.std.proofs.lemmas.Fmt.{decimal_is_IsNumeral, length-decimal-le}
use Rattle.std.proofs.lemmas.Str.Parse.{digit_at}
use Rattle.std.proofs.lemmas.List.Elements.{All-nil, All-cons, All-map, All-append, All-contains, All-from_get_or}
use Rattle.sb_text.specs.declared.token.TokenKind.{TokenKind}
use Rattle.sb_text.specs.declared.token.TokenKind.TheVariants as kind
use Rattle.sb_text.specs.Bytes.{begins_word, is_digit, is_in_word, is_quote, symbol_bytes}
use Rattle.sb_text.specs.Forms.{IsWord, IsNumber, IsSymbol, NotFirst, NoDouble, quoted, symbols}
use Rattle.sb_text.specs.Front.{IsLongest}
use Rattle.sb_text.proofs.Laws.{longest-word, longest-number, longest-text, longest-symbol}
use Rattle.spelling.specs.Lexemes.{Lexeme, Word, Number, Text, Symbol, said}
use Rattle.spelling.specs.Layout.{written, IsLexeme}
use Rattle.spelling.proofs.Undoubling.{undoubled-doubled}

abbrev pub kind_of : Lexeme → TokenKind
kind_of (Word bytes) = kind.Word
kind_of (Number n) = kind.Number
kind_of (Text bytes) = kind.Text
kind_of (Symbol bytes) = kind.Symbol

-- these bytes do not go on with the lexeme
abbrev pub Follows : Lexeme → List ℕ → Type 0
Follows (Word bytes) after = NotFirst is_in_word after
Follows (Number n) after = NotFirst is_digit after
Follows (Text bytes) after = NotFirst is_quote after
Follows (Symbol bytes) after = NoDouble bytes after

abbrev pub begins_semicolon : List ℕ → Bool
begins_semicolon [] = false
begins_semicolon (b ∷ rest) = b == 59

-- these bytes are a token that says the lexeme, where what follows does not go on with it
pub record Shows (x : Lexeme) (bytes : List ℕ) : Type 0 where
  pub some : 0 < length bytes
  pub longest : (after : List ℕ) → Follows x after → IsLongest (kind_of x) (length bytes) (bytes ++ after)
  pub says : said (kind_of x) bytes ≡ x

-- ---- words

word_some : (bytes : List ℕ) → IsWord bytes → 0 < length bytes
word_some [] is = absurd is
word_some (b ∷ rest) is = omega arith

shows_word : (bytes : List ℕ) → IsWord bytes → Shows (Word bytes) bytes
shows_word bytes is = record { some = word_some bytes is; longest = λ after none. longest-word bytes after is none; says = refl }

no_semicolon_word : (bytes : List ℕ) → IsWord bytes → begins_semicolon bytes ≡ false
no_semicolon_word [] is = refl
no_semicolon_word (b ∷ rest) is = let letter = is.0 in no_letter b letter where
  no_letter : (b : ℕ) → begins_word b ≡ true → (b == 59) ≡ false
  no_letter b letter = grind (arith, nat_tests)

-- ---- numbers

digit_test : (b : ℕ) → 48 ≤ b → b ≤ 57 → is_digit b ≡ true
digit_test b low high = grind (arith, nat_tests)

all_digits : (ds : List ℕ) → AllDigits 10 ds → AllPass is_digit ds
all_digits ds all = All-from_get_or (λ b. is_digit b ≡ true) ds 0 (λ i lt. let at = digit_at ds i all lt in digit_test (get_or ds i 0) at.0 at.1)

number_form : (n : ℕ) (after : List ℕ) → n < 10 ^ 19 → NotFirst is_digit after → IsNumber (decimal n) after
number_form n after small none =
    let small_too : n < 2 ^ 64 = omega arith in
    let is = decimal_is_IsNumeral n small_too in
    record { some = is.0.0; few = length-decimal-le 19 n (omega arith) small small_too; digits = all_digits (decimal n) is.0.1; alone = none }

shows_number : (n : ℕ) → n < 10 ^ 19 → Shows (Number n) (decimal n)
shows_number n small =
    let is = decimal_is_IsNumeral n (omega arith) in
    record {
      some = is.0.0;
      longest = λ after none. longest-number (decimal n) after (number_form n after small none);
      says = ap (λ m. Number m) is.1;
    }

no_semicolon_digits : (ds : List ℕ) → AllPass is_digit ds → begins_semicolon ds ≡ false
no_semicolon_digits [] all = refl
no_semicolon_digits (b ∷ rest) all = no_digit b (all 0 0 (omega arith)) where
  no_digit : (b : ℕ) → is_digit b ≡ true → (b == 59) ≡ false
  no_digit b digit = grind (arith, nat_tests)

-- ---- texts

shows_text : (inner : List ℕ) → Shows (Text inner) (quoted inner)
shows_text inner = record {
  some = omega arith;
  longest = λ after none. longest-text inner after none;
  says = ap (λ (l : List ℕ). Text l) (undoubled-doubled inner);
}

-- ---- symbols

abbrev LongSymbol : List ℕ → Type 0
LongSymbol bytes = 0 < length bytes

symbol_some : (bytes : List ℕ) → IsSymbol bytes → 0 < length bytes
symbol_some bytes is =
    All-contains LongSymbol symbols bytes
    (All-append LongSymbol (map (λ b. b ∷ []) symbol_bytes) (codes "<=" ∷ codes "<>" ∷ codes ">=" ∷ [])
    (All-map LongSymbol (λ b. b ∷ []) symbol_bytes (λ k d lt. omega arith))
    (All-cons LongSymbol (codes "<=") (codes "<>" ∷ codes ">=" ∷ []) (omega arith)
    (All-cons LongSymbol (codes "<>") (codes ">=" ∷ []) (omega arith)
    (All-cons LongSymbol (codes ">=") [] (omega arith) (All-nil LongSymbol))))) is

pub shows_symbol : (bytes : List ℕ) → IsSymbol bytes → Shows (Symbol bytes) bytes
shows_symbol bytes is = record { some = symbol_some bytes is; longest = λ after none. longest-symbol bytes after is none; says = refl }

abbrev OneSemicolon : List ℕ → Type 0
OneSemicolon bytes = begins_semicolon bytes ≡ true → bytes ≡ codes ";"

one_semicolon : (bytes : List ℕ) → IsSymbol bytes → OneSemicolon bytes
one_semicolon bytes is =
    All-contains OneSemicolon symbols bytes
    (All-append OneSemicolon (map (λ b. b ∷ []) symbol_bytes) (codes "<=" ∷ codes "<>" ∷ codes ">=" ∷ [])
    (All-map OneSemicolon (λ b. b ∷ []) symbol_bytes (λ k d lt e. ap (λ b. b ∷ []) (eqb-true (get_or symbol_bytes k d) 59 e)))
    (All-cons OneSemicolon (codes "<=") (codes "<>" ∷ codes ">=" ∷ []) (λ e. cc)
    (All-cons OneSemicolon (codes "<>") (codes ">=" ∷ []) (λ e. cc)
    (All-cons OneSemicolon (codes ">=") [] (λ e. cc) (All-nil OneSemicolon))))) is

no_semicolon_symbol : (q : Bool) (bytes : List ℕ) → begins_semicolon bytes ≡ q → IsSymbol bytes → (bytes ≡ codes ";" → ⊥) → begins_semicolon bytes ≡ false
no_semicolon_symbol true bytes e is other = absurd (other (one_semicolon bytes is e))
no_semicolon_symbol false bytes e is other = e

-- ---- each lexeme

pub shows : (x : Lexeme) → IsLexeme x → Shows x (written x)
shows (Word bytes) is = shows_word bytes is
shows (Number n) is = shows_number n is
shows (Text bytes) is = shows_text bytes
shows (Symbol bytes) is = shows_symbol bytes is.0

pub no_semicolon : (x : Lexeme) → IsLexeme x → begins_semicolon (written x) ≡ false
no_semicolon (Word bytes) is = no_semicolon_word bytes is
no_semicolon (Number n) is = let small : n < 2 ^ 64 = omega arith in no_semicolon_digits (decimal n) (all_digits (decimal n) (decimal_is_IsNumeral n small).0.1)
no_semicolon (Text bytes) is = refl
no_semicolon (Symbol bytes) is = no_semicolon_symbol (begins_semicolon bytes) bytes refl is.0 is.1
