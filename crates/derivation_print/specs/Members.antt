-- How a member of a set is written.
use Rattle.std.specs.Prelude.{ℕ, ◌+◌, Bool, true, false, List, [], ◌∷◌}
use Rattle.spelling.specs.Lexemes.{Lexeme, Number, comma}

-- counted from 1, and behind a comma where another stands before it
abbrev pub member_lexemes : Bool → ℕ → List Lexeme
member_lexemes true n = Number (n + 1) ∷ []
member_lexemes false n = comma ∷ Number (n + 1) ∷ []
