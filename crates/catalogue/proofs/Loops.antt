-- The loops that read items with commas between: what the code answers where it reads no item.
use Rattle.std.proofs.Common.{List, Err}
use Rattle.spelling.specs.Lexemes.{Lexeme}
use Rattle.spelling.specs.Reading.{Reader}
use Rattle.spelling.specs.SeriesReading.{series}
use Rattle.spelling.specs.SeriesReadingCases.{Stands, stopped}
use Rattle.spelling.specs.declared.unread.Unread.{Unread}
use Rattle.spelling.specs.declared.unread.Unread.TheVariants.{Strange, Memory}
use Rattle.spelling.specs.Answers.{Answers}

pub stops : {A : Type 0} (item : Reader A) (separator : Reader (Unit {0})) (all : List Lexeme) (done : List A) (left : List Lexeme) (why : Unread) (rest last : List Lexeme)
    → Stands item separator all done left → Answers (item left) (Err why) rest → Answers (series item separator all) (Err why) last
stops item separator all done left Strange rest last stands first = stopped item separator all done left stands first
stops item separator all done left Memory rest last stands first = tt
