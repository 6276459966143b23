-- The canonical layout of a text, and the lexemes that a text can have.
use Rattle.std.specs.Prelude.{◌≡◌, ℕ, ◌^◌, ◌<◌, Bool, false, ◌||◌, if◌then◌else◌, List, [], ◌∷◌, ◌++◌, codes, decimal}
use Rattle.std.specs.List.{list_any}
use Rattle.sb_text.specs.Forms.{IsWord, IsSymbol, quoted}
use Rattle.star_model.specs.Vectors.{same_numbers}
use Rattle.spelling.specs.Lexemes.{Lexeme, Word, Number, Text, Symbol, semicolon}

-- how a lexeme is written
abbrev pub written : Lexeme → List ℕ
written (Word bytes) = bytes
written (Number n) = decimal n
written (Text bytes) = quoted bytes
written (Symbol bytes) = bytes

abbrev pub is_one_of : List ℕ → List ℕ → Bool
is_one_of signs bytes = list_any (λ sign. same_numbers (sign ∷ []) bytes) signs

-- no space stands before it
abbrev pub hangs : Lexeme → Bool
hangs (Symbol bytes) = is_one_of (codes ",;)]}.") bytes
hangs _ = false

-- no space stands after it
abbrev pub leads : Lexeme → Bool
leads (Symbol bytes) = is_one_of (codes "([{.") bytes
leads _ = false

-- a word and the bracket that follows it
abbrev pub calls : Lexeme → Lexeme → Bool
calls (Word name) (Symbol bytes) = is_one_of (codes "([") bytes
calls _ _ = false

-- what stands between two lexemes: one space, or nothing
abbrev pub gap : Lexeme → Lexeme → List ℕ
gap x y = if hangs y || leads x || calls x y then [] else 32 ∷ []

abbrev pub spaced : List Lexeme → List ℕ
spaced [] = []
spaced (x ∷ []) = written x
spaced (x ∷ y ∷ rest) = written x ++ (gap x y ++ spaced (y ∷ rest))

-- a statement on a line of its own
abbrev pub line : List Lexeme → List ℕ
line statement = spaced (statement ++ semicolon ∷ []) ++ 10 ∷ []

unfoldable pub layout : List (List Lexeme) → List ℕ
layout [] = []
layout (statement ∷ later) = line statement ++ layout later

-- a text behind a comment on a line of its own
abbrev pub commented : List ℕ → List ℕ → List ℕ
commented comment text = 35 ∷ (comment ++ 10 ∷ text)

-- ---- which lexemes the statements of a text can have

-- a text between quotes holds any bytes, and `;` ends a statement
abbrev pub IsLexeme : Lexeme → Type 0
IsLexeme (Word bytes) = IsWord bytes
IsLexeme (Number n) = n < 10 ^ 19
IsLexeme (Text bytes) = Unit {0}
IsLexeme (Symbol bytes) = IsSymbol bytes × (bytes ≡ codes ";" → ⊥)
