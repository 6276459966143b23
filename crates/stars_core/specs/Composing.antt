-- What the words of a command line make of a shelf.
use Rattle.std.specs.Prelude.{◌≡◌, ◌⊎◌, ℕ, List, [], ◌++◌, Option, None, Some, Result, Ok, Err, string_bytes}
use Rattle.sb_outside.specs.Shelf.{Files, ShelfState, GoesBy, NoFault}
use Rattle.stars_core.specs.declared.command.Command.{Command}
use Rattle.stars_core.specs.declared.command.Command.TheVariants.{Gen}
use Rattle.stars_core.specs.declared.refusal.Refusal.{Refusal}
use Rattle.stars_core.specs.declared.refusal.Refusal.TheVariants.{Usage, Unread, Refused, Table, NotDerived, Memory}
use Rattle.stars_core.specs.declared.status.Ending.{Ending}
use Rattle.stars_core.specs.declared.pieces.Pieces.{Pieces}
use Rattle.stars_core.specs.declared.case.Case.{Case}
use Rattle.stars_core.specs.CommandLine.{Request, CommandLine, requests_of, three_requests}
use Rattle.stars_core.specs.Given.{Given}
use Rattle.stars_core.specs.Faults.{PassAll}
use Rattle.stars_core.specs.Saying.{SaysCase, three}
use Rattle.stars_core.specs.Shelves.{HeldAs, UnreadAt, RefusedAt, DeniedOf, CameAlong}
use Rattle.stars_core.specs.Running.{TableUnreadAt, TableRefusedAt, FewCalls}
use Rattle.stars_core.specs.Pieces.{pieces_of, HasPieces}
use Rattle.stars_core.specs.Bounds.{most_calls}

-- why a command has no output
abbrev pub RanInto : Command → ShelfState → ShelfState → List Request → Refusal → Type 0
RanInto command before now requests Usage = ⊥
RanInto command before now requests (Unread line) =
    UnreadAt before now requests (string_bytes line) ⊎ TableUnreadAt command before now requests (string_bytes line)
RanInto command before now requests (Refused kind line) = RefusedAt before now requests kind (string_bytes line)
RanInto command before now requests (Table line) = TableRefusedAt command before now requests (string_bytes line)
RanInto command before now requests (NotDerived line) = DeniedOf command before now requests (string_bytes line)
RanInto command before now requests Memory = Unit {0}

-- three files were read and say this, or why not, whatever is asked for behind them
abbrev pub CaseTaken : ShelfState → ShelfState → List ℕ → List ℕ → List ℕ → Result Case Refusal → Type 0
CaseTaken before now rules catalogue query (Ok case) =
    (r : List ℕ) × (c : List ℕ) × (q : List ℕ) × CameAlong before now (three_requests rules catalogue query) (three r c q)
    × SaysCase r c q case.rules case.query
CaseTaken before now rules catalogue query (Err refusal) =
    (command : Command) (later : List Request) → RanInto command before now (three_requests rules catalogue query ++ later) refusal

-- the requests stand for texts that are accepted, and these are the pieces of the command's answer of what they say
abbrev pub IsAnswered : Command → Option Files → List Request → Ending → List (List ℕ) → Type 0
IsAnswered command told requests ending pieces =
    (given : List Given) × HeldAs told requests given × PassAll [] given × HasPieces command told given ending pieces

-- what a command puts out, piece by piece
abbrev pub Puts : Command → Option Files → CommandLine → Ending → List (List ℕ) → Type 0
Puts command told words ending pieces = IsAnswered command told (requests_of command words) ending pieces

-- the command's answer was made of its files, or why not
abbrev pub Ran : Command → ShelfState → ShelfState → List Request → Result Pieces Refusal → Type 0
Ran command before now requests (Ok pieces) = NoFault before now × IsAnswered command before.held requests pieces.ending (pieces_of pieces)
Ran command before now requests (Err refusal) = RanInto command before now requests refusal

-- the run of a workload was made of nothing on the shelf, whatever this tells, or why not
abbrev pub AllRan : ℕ → ℕ → Result Pieces Refusal → Type 0
AllRan seed size result = (state : ShelfState) → Ran (Gen seed size) state state [] result

-- what the words made of the shelf
abbrev pub Composed : ShelfState → ShelfState → CommandLine → Option Command → Result Pieces Refusal → Type 0
Composed before now words None result = (now ≡ before) × (result ≡ Err Usage)
Composed before now words (Some command) result =
    GoesBy (most_calls command words) before now × FewCalls command before now (requests_of command words)
    × Ran command before now (requests_of command words) result
