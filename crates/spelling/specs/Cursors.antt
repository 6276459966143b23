-- The tokens that a cursor may stand over.
use Rattle.std.specs.Prelude.{◌≤◌, ℕ, List, length}
use Rattle.std.specs.Str.Parse.{IsNumeral}
use Rattle.sb_text.specs.Limits.{most_digits}
use Rattle.sb_text.specs.declared.token.Token.{Token}
use Rattle.sb_text.specs.Reading.{IsTokenOf}
use Rattle.sb_text.specs.Statements.{Part}
use Rattle.star_model.specs.Every.{Every}
use Rattle.spelling.specs.Lexemes.{MaybeEnded, lexemes_of}

abbrev pub AreTokensOf : List ℕ → List Token → Type 0
AreTokensOf source tokens = Every (IsTokenOf source) tokens

-- a part of the tokens of a source, as a statement
abbrev pub part_said : List ℕ → Part → MaybeEnded
part_said source part = (lexemes_of source part.0, part.1)

abbrev pub IsPartOf : List ℕ → Part → Type 0
IsPartOf source part = AreTokensOf source part.0

-- a numeral whose value a machine word holds
pub record IsMachineNumber (bytes : List ℕ) : Type 0 where
  pub numeral : IsNumeral 10 bytes
  pub few : length bytes ≤ most_digits
