-- Which version the text of a rule file says.
use Rattle.std.specs.Prelude.{ℕ, Bool, false, ◌&&◌, nat_eq, List, [], ◌∷◌, if◌then◌else◌, codes}
use Rattle.star_model.specs.Vectors.{same_numbers}
use Rattle.spelling.specs.Lexemes.{Lexeme, Word, Number, Text, Symbol, MaybeEnded, statements_in}

abbrev pub is_version : Lexeme → Bool
is_version (Word bytes) = same_numbers bytes (codes "version")
is_version (Number n) = false
is_version (Text bytes) = false
is_version (Symbol bytes) = false

abbrev pub is_two : Lexeme → Bool
is_two (Word bytes) = false
is_two (Number n) = nat_eq n 2
is_two (Text bytes) = false
is_two (Symbol bytes) = false

abbrev pub says_version : List Lexeme → Bool
says_version (word ∷ number ∷ []) = is_version word && is_two number
says_version _ = false

-- the lexemes of the statement with this number say the version, in a rule file of this version
abbrev pub is_version_statement : ℕ → ℕ → List Lexeme → Bool
is_version_statement version n lexemes = nat_eq n 1 && nat_eq version 2 && says_version lexemes

-- where the file begins with this statement
abbrev pub version_by : MaybeEnded → ℕ
version_by statement = if statement.1 && says_version statement.0 then 2 else 1

-- The first statement says version 2, where a `;` ends it. Each file that doesn't say so has version 1.
abbrev pub version_in : List MaybeEnded → ℕ
version_in [] = 1
version_in (first ∷ later) = version_by first

abbrev pub version_of_text : List ℕ → ℕ
version_of_text text = version_in (statements_in text)
