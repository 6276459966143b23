-- The kinds of bytes.
use Rattle.std.specs.Prelude.{ℕ, Bool, ◌==◌, ◌||◌, ◌&&◌, nat_le, List, codes}
use Rattle.std.specs.List.{list_any}

-- space, tab, CR and LF
abbrev pub is_blank : ℕ → Bool
is_blank b = b == 32 || b == 9 || b == 13 || b == 10

abbrev pub is_between : ℕ → ℕ → ℕ → Bool
is_between low high b = nat_le low b && nat_le b high

-- a letter A to Z or a to z, or `_`
abbrev pub begins_word : ℕ → Bool
begins_word b = is_between 65 90 b || is_between 97 122 b || b == 95

abbrev pub is_digit : ℕ → Bool
is_digit b = is_between 48 57 b

abbrev pub is_in_word : ℕ → Bool
is_in_word b = begins_word b || is_digit b

-- '
abbrev pub is_quote : ℕ → Bool
is_quote b = b == 39

-- the symbols of one byte
abbrev pub symbol_bytes : List ℕ
symbol_bytes = codes "()[]{},;.|=<>+-*/"

abbrev pub is_symbol : ℕ → Bool
is_symbol b = list_any (λ s. b == s) symbol_bytes

-- <= <> >=
abbrev pub is_double : ℕ → ℕ → Bool
is_double b c = (b == 60 && (c == 61 || c == 62)) || (b == 62 && c == 61)
