-- What the functions answer that read a part of a statement.
use Rattle.std.specs.Prelude.{◌≡◌, List, Option, Some, None, Result, Ok, Err}
use Rattle.spelling.specs.Lexemes.{Lexeme}
use Rattle.spelling.specs.declared.unread.Unread.{Unread}
use Rattle.spelling.specs.declared.unread.Unread.TheVariants.{Strange, Memory}

-- what was read, where it is there; want of memory may come at any lexemes
abbrev pub Answers : {A : Type 0} → Option (A × List Lexeme) → Result A Unread → List Lexeme → Type 0
Answers read (Ok x) rest = read ≡ Some (x, rest)
Answers read (Err Strange) rest = read ≡ None
Answers read (Err Memory) rest = Unit {0}
