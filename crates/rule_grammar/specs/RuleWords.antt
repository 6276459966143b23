-- What words of the rule language stand for: names and kinds.
use Rattle.std.specs.Prelude.{ℕ, List, Option, Some, None, if◌then◌else◌}
use Rattle.star_model.specs.declared.rules.Kind.{Kind}
use Rattle.star_model.specs.FlavourWords.{kind_of_word}
use Rattle.star_model.specs.WellFormedRules.{is_reserved}
use Rattle.spelling.specs.Reading.{Reader, ◌>>=◌, a_word, given}

-- the word as a name, where rule files of this version don't reserve it
abbrev pub name_of : ℕ → List ℕ → Option (List ℕ)
name_of version word = if is_reserved version word then None else Some word

-- a word that isn't reserved
unfoldable pub free_word : ℕ → Reader (List ℕ)
free_word version = a_word >>= λ word. given (name_of version word)

unfoldable pub kind_at : Reader Kind
kind_at = a_word >>= λ word. given (kind_of_word word)
