-- What stands at the front of the bytes: white space, a comment or a token.
use Rattle.std.specs.Prelude.{◌≡◌, ◌+◌, ◌≤◌, ℕ, Bool, not, ◌==◌, nat_le, List, [], ◌∷◌, ◌++◌, length, take, drop, take_while, unwrap_or, Option, None, Some, option_map, if◌then◌else◌}
use Rattle.sb_text.specs.declared.token.TokenKind.{TokenKind}
use Rattle.sb_text.specs.declared.token.TokenKind.TheVariants.{Word, Number, Text, Symbol}
use Rattle.sb_text.specs.Bytes.{is_blank, begins_word, is_digit, is_in_word, is_quote, is_symbol, is_double}
use Rattle.sb_text.specs.Forms.{IsToken}

-- how many bytes at the front pass the test
abbrev pub run : (ℕ → Bool) → List ℕ → ℕ
run test bytes = length (take_while test bytes)

-- all but LF
abbrev pub in_comment : ℕ → Bool
in_comment b = not (b == 10)

-- one byte of white space, or a comment up to the next LF, or nothing
abbrev pub gap_at : List ℕ → ℕ
gap_at [] = 0
gap_at (b ∷ rest) =
    if is_blank b then 1 else if b == 35 then run in_comment rest + 1 else 0

-- the length of the symbol that begins with `b`, the longer one where both stand there
abbrev pub symbol_len : ℕ → List ℕ → Option ℕ
symbol_len b [] = if is_symbol b then Some 1 else None
symbol_len b (c ∷ rest) = if is_double b c then Some 2 else (if is_symbol b then Some 1 else None)

abbrev pub longer_by : ℕ → Option ℕ → Option ℕ
longer_by k None = None
longer_by k (Some n) = Some (n + k)

-- The bytes of a text behind its first quote, with the last one. At two quotes in a row the text goes on behind them, and
-- where no quote ends it there, it ends at the first of the two.
abbrev pub quoted_len : List ℕ → Option ℕ
quoted_len [] = None
quoted_len (b ∷ []) = if is_quote b then Some 1 else None
quoted_len (b ∷ c ∷ rest) =
    if is_quote b then (if is_quote c then Some (unwrap_or (longer_by 2 (quoted_len rest)) 1) else Some 1)
    else longer_by 1 (quoted_len (c ∷ rest))

-- a run of so many digits is a number only where they are at most 19
abbrev pub number_len : ℕ → Option ℕ
number_len n = if nat_le n 19 then Some n else None

abbrev pub kind_and_len : TokenKind → Option ℕ → Option (TokenKind × ℕ)
kind_and_len kind len = option_map (λ n. (kind, n)) len

-- the longest token at the front: its kind and its length
abbrev pub token_at : List ℕ → Option (TokenKind × ℕ)
token_at [] = None
token_at (b ∷ rest) =
    if begins_word b then Some (Word, run is_in_word rest + 1)
    else if is_digit b then kind_and_len Number (number_len (run is_digit rest + 1))
    else if is_quote b then kind_and_len Text (longer_by 1 (quoted_len rest))
    else kind_and_len Symbol (symbol_len b rest)

-- the first `len` bytes are a token of this kind, and no longer front of the bytes is a token
pub record IsLongest (kind : TokenKind) (len : ℕ) (bytes : List ℕ) : Type 0 where
  pub within : len ≤ length bytes
  pub form : IsToken kind (take len bytes) (drop len bytes)
  pub longest : (other : TokenKind) (front after : List ℕ) → front ++ after ≡ bytes → IsToken other front after → length front ≤ len

-- no front of the bytes is a token
abbrev pub NoneBegins : List ℕ → Type 0
NoneBegins bytes = (kind : TokenKind) (front after : List ℕ) → front ++ after ≡ bytes → IsToken kind front after → ⊥
