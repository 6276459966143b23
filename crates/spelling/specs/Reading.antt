-- Reading from the front of a list of lexemes.
use Rattle.std.specs.Prelude.{◌≡◌, ℕ, List, [], ◌∷◌, Option, Some, None, option_map, option_and_then, if◌then◌else◌}
use Rattle.star_model.specs.Vectors.{same_numbers}
use Rattle.spelling.specs.Lexemes.{Lexeme, Word, Number, Text, Symbol}

-- what is read, and what is left; none where it isn't there
abbrev pub Reader : Type 0 → Type 0
Reader A = List Lexeme → Option (A × List Lexeme)

infixl 10 ◌>>=◌
abbrev pub ◌>>=◌ : {A B : Type 0} → Reader A → (A → Reader B) → Reader B
first >>= next = λ lexemes. option_and_then (λ found. next found.0 found.1) (first lexemes)

infixl 10 ◌>>◌
abbrev pub ◌>>◌ : {A B : Type 0} → Reader A → Reader B → Reader B
first >> next = λ lexemes. option_and_then (λ found. next found.1) (first lexemes)

abbrev pub pure : {A : Type 0} → A → Reader A
pure x = λ lexemes. Some (x, lexemes)

-- this, where it is there; nothing is passed
abbrev pub given : {A : Type 0} → Option A → Reader A
given found = λ lexemes. option_map (λ x. (x, lexemes)) found

-- this word
abbrev pub the_word : List ℕ → Reader (Unit {0})
the_word wanted [] = None
the_word wanted (Word bytes ∷ rest) = if same_numbers bytes wanted then Some (tt, rest) else None
the_word wanted (Number n ∷ rest) = None
the_word wanted (Text bytes ∷ rest) = None
the_word wanted (Symbol bytes ∷ rest) = None

-- this symbol
abbrev pub the_symbol : List ℕ → Reader (Unit {0})
the_symbol wanted [] = None
the_symbol wanted (Word bytes ∷ rest) = None
the_symbol wanted (Number n ∷ rest) = None
the_symbol wanted (Text bytes ∷ rest) = None
the_symbol wanted (Symbol bytes ∷ rest) = if same_numbers bytes wanted then Some (tt, rest) else None

abbrev pub a_word : Reader (List ℕ)
a_word [] = None
a_word (Word bytes ∷ rest) = Some (bytes, rest)
a_word (Number n ∷ rest) = None
a_word (Text bytes ∷ rest) = None
a_word (Symbol bytes ∷ rest) = None

abbrev pub a_number : Reader ℕ
a_number [] = None
a_number (Word bytes ∷ rest) = None
a_number (Number n ∷ rest) = Some (n, rest)
a_number (Text bytes ∷ rest) = None
a_number (Symbol bytes ∷ rest) = None

abbrev pub a_text : Reader (List ℕ)
a_text [] = None
a_text (Word bytes ∷ rest) = None
a_text (Number n ∷ rest) = None
a_text (Text bytes ∷ rest) = Some (bytes, rest)
a_text (Symbol bytes ∷ rest) = None

-- what a function that reads answers: what was read, where it is there
abbrev pub Reads : {A : Type 0} → Option (A × List Lexeme) → Option A → List Lexeme → Type 0
Reads read (Some x) rest = read ≡ Some (x, rest)
Reads read None rest = read ≡ None

-- ---- choices

abbrev pub chosen : {A B : Type 0} → Option (A × List Lexeme) → (A → Reader B) → Reader B → Reader B
chosen None next other lexemes = other lexemes
chosen (Some found) next other lexemes = next found.0 found.1

-- where the first is there, what comes next behind it, and else the other
abbrev pub either : {A B : Type 0} → Reader A → (A → Reader B) → Reader B → Reader B
either first next other = λ lexemes. chosen (first lexemes) next other lexemes

-- what was read, where nothing is left
abbrev pub only : {A : Type 0} → Option (A × List Lexeme) → Option A
only None = None
only (Some (x, [])) = Some x
only (Some (x, lexeme ∷ later)) = None
