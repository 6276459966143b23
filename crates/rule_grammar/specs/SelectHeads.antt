-- How the head of a selectivity's statement is read, and where its two formulas part.
use Rattle.std.specs.Prelude.{Bool, false, List, [], ◌∷◌, Option, Some, None, option_map, codes, if◌then◌else◌}
use Rattle.star_model.specs.Vectors.{same_numbers}
use Rattle.star_model.specs.declared.rules.Class.{Class}
use Rattle.spelling.specs.Lexemes.{Lexeme, Word, Number, Text, Symbol}
use Rattle.spelling.specs.Reading.{Reader, ◌>>=◌, ◌>>◌, pure, given, a_word, the_word, the_symbol}
use Rattle.star_model.specs.FlavourWords.{class_of_word}

-- up to the `=`
unfoldable pub select_head_at : Reader Class
select_head_at = do
  the_word (codes "selectivity")
  word ← a_word
  class ← given (class_of_word word)
  the_symbol (codes "=")
  pure class

abbrev pub is_per : Lexeme → Bool
is_per (Word bytes) = same_numbers bytes (codes "per")
is_per (Number n) = false
is_per (Text bytes) = false
is_per (Symbol bytes) = false

-- what stands before the first `per`, and what stands behind it
abbrev pub parted_at_per : List Lexeme → Option (List Lexeme × List Lexeme)
parted_at_per [] = None
parted_at_per (lexeme ∷ later) = if is_per lexeme then Some ([], later) else option_map (λ parts. (lexeme ∷ parts.0, parts.1)) (parted_at_per later)
