-- What code that writes lexemes one after the other has written.
use Rattle.std.specs.Prelude.{ℕ, Bool, true, false, ◌||◌, if◌then◌else◌, List, [], ◌∷◌, ◌++◌, codes}
use Rattle.spelling.specs.declared.ending.Ending.{Ending}
use Rattle.spelling.specs.declared.ending.Ending.TheVariants as ending
use Rattle.spelling.specs.Lexemes.{Lexeme, Word, Number, Text, Symbol}
use Rattle.spelling.specs.Layout.{written, is_one_of}

abbrev pub ending_of_symbol : List ℕ → Ending
ending_of_symbol bytes = if is_one_of (codes "([{.") bytes then ending.Open else ending.Closed

-- how a statement ends that ends with the lexeme
abbrev pub ending_of : Lexeme → Ending
ending_of (Word bytes) = ending.Name
ending_of (Number n) = ending.Closed
ending_of (Text bytes) = ending.Closed
ending_of (Symbol bytes) = ending_of_symbol bytes

-- no space stands between the ending and the symbol
abbrev pub symbol_hangs : Ending → List ℕ → Bool
symbol_hangs ending.Open bytes = true
symbol_hangs ending.Name bytes = is_one_of (codes ",;)]}.") bytes || is_one_of (codes "([") bytes
symbol_hangs ending.Closed bytes = is_one_of (codes ",;)]}.") bytes

-- no space stands between the ending and a lexeme that is no symbol
abbrev pub is_open : Ending → Bool
is_open ending.Open = true
is_open ending.Name = false
is_open ending.Closed = false

-- no space stands between the ending and the lexeme
abbrev pub follows : Ending → Lexeme → Bool
follows e (Word bytes) = is_open e
follows e (Number n) = is_open e
follows e (Text bytes) = is_open e
follows e (Symbol bytes) = symbol_hangs e bytes

-- the bytes so far, and how the open statement ends
pub record Written : Type 0 where
  pub text : List ℕ
  pub ending : Ending

-- a text of whole statements
abbrev pub whole : List ℕ → Written
whole text = record { text = text; ending = ending.Open }

-- and then the lexeme
unfoldable pub put : Written → Lexeme → Written
put w x = record {
  text = w.text ++ ((if follows w.ending x then [] else 32 ∷ []) ++ written x);
  ending = ending_of x;
}

-- and then the lexemes
unfoldable pub puts : Written → List Lexeme → Written
puts w [] = w
puts w (x ∷ xs) = puts (put w x) xs

-- and then the end of the statement
unfoldable pub ended : Written → Written
ended w = whole (w.text ++ codes ";\n")

-- and then the statements
unfoldable pub lines : Written → List (List Lexeme) → Written
lines w [] = w
lines w (statement ∷ later) = lines (ended (puts w statement)) later
