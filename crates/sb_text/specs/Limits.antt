-- The greatest sizes of what is read.
use Rattle.std.specs.Prelude.{ℕ}

-- the bytes of a text
abbrev pub most_text_bytes : ℕ
most_text_bytes = 1048576

-- the tokens of a statement, and how deep its brackets nest
abbrev pub most_tokens : ℕ
most_tokens = 4096

abbrev pub deepest_brackets : ℕ
deepest_brackets = 32

-- the digits of a number
abbrev pub most_digits : ℕ
most_digits = 19
