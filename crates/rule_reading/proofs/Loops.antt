-- A loop that reads items with separators between, where no item is read.
use Rattle.std.proofs.Common.{List, Err}
use Rattle.spelling.specs.Lexemes.{Lexeme}
use Rattle.spelling.specs.Reading.{Reader}
use Rattle.spelling.specs.SeriesReading.{series}
use Rattle.spelling.specs.SeriesReadingCases.{Stands, stopped}
use Rattle.spelling.specs.declared.unread.Unread.{Unread}
use Rattle.spelling.specs.declared.unread.Unread.TheVariants.{Strange, Memory}
use Rattle.spelling.specs.Answers.{Answers}

module _ {A : Type 0} (item : Reader A) (separator : Reader (Unit {0})) where
  -- no item
  pub stops : (all : List Lexeme) (done : List A) (left : List Lexeme) (why : Unread) (rest last : List Lexeme) → Stands item separator all done left
      → Answers (item left) (Err why) rest → Answers (series item separator all) (Err why) last
  stops all done left Strange rest last stands first = stopped item separator all done left stands first
  stops all done left Memory rest last stands first = tt
