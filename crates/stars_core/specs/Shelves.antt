-- What a command finds on its shelf.
use Rattle.std.specs.Prelude.{◌≡◌, ◌≤◌, ◌+◌, ◌<◌, ℕ, false, List, [], ◌∷◌, take, slice_get, length, Option, Some, Result, Ok, Err, Vec, string_bytes}
use Rattle.std.specs.declared.alloc.Global.{Global}
use Rattle.sb_text.specs.Limits.{most_text_bytes}
use Rattle.sb_outside.specs.Counts.{RoseBy}
use Rattle.sb_outside.specs.Shelf.{Files, ShelfState, GoesBy, FailsAt, NoFault, TellsBytes, TellsMore}
use Rattle.stars_core.specs.declared.refusal.TextKind.{TextKind}
use Rattle.stars_core.specs.declared.refusal.Refusal.{Refusal}
use Rattle.stars_core.specs.declared.refusal.Refusal.TheVariants.{Usage, Unread, Refused, Table, NotDerived, Memory}
use Rattle.stars_core.specs.declared.command.Command.{Command}
use Rattle.stars_core.specs.CommandLine.{Request}
use Rattle.table_taking.specs.Lines.{cannot_read}
use Rattle.stars_core.specs.Lines.{too_long_line}
use Rattle.stars_core.specs.Given.{Given}
use Rattle.stars_core.specs.Faults.{Stops, PassAll}
use Rattle.stars_core.specs.Saying.{IsDenied}

-- These are texts of what is asked for, and those that the shelf holds, where it tells.
abbrev pub HeldAs : Option Files → List Request → List Given → Type 0
HeldAs told [] [] = Unit {0}
HeldAs told (request ∷ later) (this ∷ given) = (this.0 ≡ request.0) × TellsBytes told request.1 this.1 × HeldAs told later given
HeldAs told _ _ = ⊥

-- ---- one file

-- a file wasn't fetched
abbrev pub NotFetched : ShelfState → ShelfState → Request → Refusal → Type 0
NotFetched before now request Usage = ⊥
NotFetched before now request (Unread line) = FailsAt before now (false, request.1) × (string_bytes line ≡ cannot_read request.1)
NotFetched before now request (Refused kind line) =
    NoFault before now × (kind ≡ request.0) × (string_bytes line ≡ too_long_line kind)
    × TellsMore before.held request.1 most_text_bytes × RoseBy (most_text_bytes + 1) before.taken now.taken
NotFetched before now request (Table line) = ⊥
NotFetched before now request (NotDerived line) = ⊥
NotFetched before now request Memory = Unit {0}

-- a file was fetched, or why not
abbrev pub Fetched : ShelfState → ShelfState → Request → Result (Vec ℕ Global) Refusal → Type 0
Fetched before now request (Ok text) = NoFault before now × TellsBytes before.held request.1 text.items × (length text.items ≤ most_text_bytes)
Fetched before now request (Err refusal) = NotFetched before now request refusal

-- the file's text is stopped as P says
pub record StopTaken (P : List ℕ → List ℕ → Type 0) (before now : ShelfState) (request : Request) (line : List ℕ) : Type 0 where
  pub bytes : List ℕ
  pub told : TellsBytes before.held request.1 bytes
  pub stops : P bytes line
  pub quiet : NoFault before now
  pub too_long : most_text_bytes < length bytes → RoseBy (most_text_bytes + 1) before.taken now.taken

-- a file wasn't taken: it couldn't be read, or its text is stopped as P says
abbrev pub NotTaken : (List ℕ → List ℕ → Type 0) → ShelfState → ShelfState → Request → Refusal → Type 0
NotTaken P before now request Usage = ⊥
NotTaken P before now request (Unread line) = FailsAt before now (false, request.1) × (string_bytes line ≡ cannot_read request.1)
NotTaken P before now request (Refused kind line) = (kind ≡ request.0) × StopTaken P before now request (string_bytes line)
NotTaken P before now request (Table line) = ⊥
NotTaken P before now request (NotDerived line) = ⊥
NotTaken P before now request Memory = Unit {0}

-- a file was read and its text says this, or why not
abbrev pub Taken : {A : Type 0} → (List ℕ → A → Type 0) → (List ℕ → List ℕ → Type 0) → ShelfState → ShelfState → Request → Result A Refusal → Type 0
Taken Says P before now request (Ok this) = NoFault before now × (bytes : List ℕ) × TellsBytes before.held request.1 bytes × Says bytes this
Taken Says P before now request (Err refusal) = NotTaken P before now request refusal

-- ---- the files of a command

-- the command came to the file at this place: it was asked for, and those before it are accepted
pub record CameTo (before now : ShelfState) (requests : List Request) (place : ℕ) (this : Request) (earlier : List Given) : Type 0 where
  pub here : slice_get requests place ≡ Some this
  pub held : HeldAs before.held (take place requests) earlier
  pub accepted : PassAll [] earlier
  pub calls : now.calls ≤ before.calls + (place + 1)

-- The shelf failed at the file at some place, and the line names it; those before it are accepted.
abbrev pub UnreadAt : ShelfState → ShelfState → List Request → List ℕ → Type 0
UnreadAt before now requests line =
    (place : ℕ) × (this : Request) × (earlier : List Given) × CameTo before now requests place this earlier
    × FailsAt before now (false, this.1) × (line ≡ cannot_read this.1)

-- this file is stopped with this line, and nothing failed
pub record Stopping (before now : ShelfState) (line : List ℕ) (this : Request) (earlier : List Given) (bytes : List ℕ) : Type 0 where
  pub told : TellsBytes before.held this.1 bytes
  pub stops : Stops earlier (this.0, bytes) line
  pub quiet : NoFault before now
  pub too_long : most_text_bytes < length bytes → RoseBy (most_text_bytes + 1) before.taken now.taken

-- The text of this kind at some place is stopped with this line, and those before it are accepted.
abbrev pub RefusedAt : ShelfState → ShelfState → List Request → TextKind → List ℕ → Type 0
RefusedAt before now requests kind line =
    (place : ℕ) × (this : Request) × (earlier : List Given) × (bytes : List ℕ) × CameTo before now requests place this earlier
    × (kind ≡ this.0) × Stopping before now line this earlier bytes

-- the requests stand for texts that are accepted, and of what they say the command denies what it is for
abbrev pub DeniedOf : Command → ShelfState → ShelfState → List Request → List ℕ → Type 0
DeniedOf command before now requests line =
    NoFault before now × (given : List Given) × HeldAs before.held requests given × PassAll [] given × IsDenied command given line

-- the files so far were read and are accepted, and the shelf didn't fail
pub record CameAlong (before now : ShelfState) (front : List Request) (earlier : List Given) : Type 0 where
  pub by : GoesBy (length front) before now
  pub quiet : NoFault before now
  pub held : HeldAs before.held front earlier
  pub accepted : PassAll [] earlier
