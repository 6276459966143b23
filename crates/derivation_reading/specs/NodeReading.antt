-- What the functions that read a statement answer.
use Rattle.std.specs.Prelude.{◌≡◌, Option, Some, None, List, Result, Ok, Err}
use Rattle.spelling.specs.Lexemes.{Lexeme, MaybeEnded}
use Rattle.derivation_reading.specs.Derivations.{Step}
use Rattle.derivation_reading.specs.Nodes.{said, SaysNode}
use Rattle.derivation_reading.specs.declared.nodes.Node.{Node}
use Rattle.spelling.specs.declared.unread.Unread.{Unread}
use Rattle.spelling.specs.declared.unread.Unread.TheVariants.{Strange, Memory}

-- what was read, where it is there; want of memory may come at any lexemes
abbrev pub Answers : Option (Step × List Lexeme) → Result Node Unread → List Lexeme → Type 0
Answers read (Ok node) rest = read ≡ Some (said node, rest)
Answers read (Err Strange) rest = read ≡ None
Answers read (Err Memory) rest = Unit {0}

-- what the statement says, or that it says no node
abbrev pub NodeRead : MaybeEnded → Result Node Unread → Type 0
NodeRead statement (Ok node) = SaysNode statement (said node)
NodeRead statement (Err Strange) = (node : Step) → SaysNode statement node → ⊥
NodeRead statement (Err Memory) = Unit {0}
