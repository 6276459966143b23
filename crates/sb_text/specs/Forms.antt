-- The forms of the four kinds of tokens, as the format gives them.
use Rattle.std.specs.Prelude.{◌≡◌, ◌<◌, ◌≤◌, ℕ, Bool, IsTrue, List, [], ◌∷◌, ◌++◌, length, map, codes, Contains, if◌then◌else◌}
use Rattle.std.specs.List.{AllPass}
use Rattle.std.specs.Bool.{IsFalse}
use Rattle.sb_text.specs.Limits.{most_digits}
use Rattle.sb_text.specs.declared.token.TokenKind.{TokenKind}
use Rattle.sb_text.specs.declared.token.TokenKind.TheVariants.{Word, Number, Text, Symbol}
use Rattle.sb_text.specs.Bytes.{begins_word, is_in_word, is_digit, is_quote, symbol_bytes, is_double}

-- a letter or `_`, then letters, digits and `_`
abbrev pub IsWord : List ℕ → Type 0
IsWord [] = ⊥
IsWord (b ∷ rest) = IsTrue (begins_word b) × AllPass is_in_word rest

-- the first byte, if there is one, does not pass the test
abbrev pub NotFirst : (ℕ → Bool) → List ℕ → Type 0
NotFirst test [] = Unit {0}
NotFirst test (b ∷ rest) = IsFalse (test b)

-- 1 to 19 digits with no digit after them
pub record IsNumber (bytes after : List ℕ) : Type 0 where
  pub some : 0 < length bytes
  pub few : length bytes ≤ most_digits
  pub digits : AllPass is_digit bytes
  pub alone : NotFirst is_digit after

-- bytes with each quote doubled
abbrev pub doubled : List ℕ → List ℕ
doubled [] = []
doubled (b ∷ rest) = if is_quote b then b ∷ b ∷ doubled rest else b ∷ doubled rest

-- bytes as a text: between quotes, each quote among them doubled
abbrev pub quoted : List ℕ → List ℕ
quoted inner = 39 ∷ (doubled inner ++ 39 ∷ [])

abbrev pub IsText : List ℕ → Type 0
IsText bytes = (inner : List ℕ) × (bytes ≡ quoted inner)

-- the 17 symbols of one byte and the three of two
abbrev pub symbols : List (List ℕ)
symbols = map (λ b. b ∷ []) symbol_bytes ++ codes "<=" ∷ codes "<>" ∷ codes ">=" ∷ []

abbrev pub IsSymbol : List ℕ → Type 0
IsSymbol bytes = Contains symbols bytes

-- these bytes do not go on with the symbol before them, as `=` does with `<`
abbrev pub NoDouble : List ℕ → List ℕ → Type 0
NoDouble (b ∷ []) (c ∷ rest) = IsFalse (is_double b c)
NoDouble bytes after = Unit {0}

-- the bytes are a token of this kind where these bytes follow them
abbrev pub IsToken : TokenKind → List ℕ → List ℕ → Type 0
IsToken Word bytes after = IsWord bytes
IsToken Number bytes after = IsNumber bytes after
IsToken Text bytes after = IsText bytes
IsToken Symbol bytes after = IsSymbol bytes
