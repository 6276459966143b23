-- Statements that are short and open few brackets.
use Rattle.std.specs.Prelude.{ℕ, ◌+◌, ◌≤◌, Bool, false, ◌||◌, ◌==◌, if◌then◌else◌, List, [], ◌∷◌, length}
use Rattle.sb_text.specs.Limits.{deepest_brackets, most_tokens}
use Rattle.spelling.specs.Lexemes.{Lexeme, Word, Number, Text, Symbol}

-- `(`, `[` and `{`
abbrev pub opens_with : ℕ → Bool
opens_with b = b == 40 || b == 91 || b == 123

-- whether the lexeme opens a bracket
abbrev pub opens : Lexeme → Bool
opens (Symbol (b ∷ rest)) = opens_with b
opens (Symbol []) = false
opens (Word bytes) = false
opens (Number n) = false
opens (Text bytes) = false

abbrev pub count_opens : List Lexeme → ℕ
count_opens [] = 0
count_opens (x ∷ xs) = (if opens x then 1 else 0) + count_opens xs

-- a statement that keeps the limit on tokens, and whose brackets can open no deeper than the limit
pub record IsShallow (statement : List Lexeme) : Type 0 where
  pub short : length statement ≤ most_tokens
  pub few : count_opens statement ≤ deepest_brackets
