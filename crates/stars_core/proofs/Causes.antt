-- The answer of the top call, from what the words made of the shelf.
use Rattle.std.proofs.Common.{◌≡◌, length, Option, None, Some, Result, Ok, Err, arith, refl, subst, string_bytes}
use Rattle.std.specs.List.{concat}
use Rattle.sb_outside.specs.Counts.{Rose, RoseAtMost}
use Rattle.sb_outside.specs.Shelf.{ShelfState, GoesBy}
use Rattle.sb_outside.specs.Sink.{SinkState, Adds, AddsPrefix}
use Rattle.stars_core.specs.declared.command.Command.{Command}
use Rattle.stars_core.specs.declared.refusal.TextKind.TheVariants.{Rules, Catalogue, Query, Derivation}
use Rattle.stars_core.specs.declared.refusal.Refusal.{Refusal}
use Rattle.stars_core.specs.declared.refusal.Refusal.TheVariants.{Usage, Unread, Refused, Table, NotDerived, Memory}
use Rattle.stars_core.specs.declared.status.Ending.{Ending}
use Rattle.stars_core.specs.declared.status.Status.TheVariants as statuses
use Rattle.stars_core.specs.declared.pieces.Pieces.{Pieces}
use Rattle.stars_core.specs.CommandLine.{CommandLine, command_of, requests_of}
use Rattle.stars_core.specs.Lines.{status_of, line_of, cannot_write}
use Rattle.stars_core.specs.Pieces.{pieces_of}
use Rattle.stars_core.specs.Bounds.{calls_of}
use Rattle.stars_core.specs.Composing.{Composed, IsAnswered}
use Rattle.stars_core.specs.Answers.{Answered, Output, LinePut}

-- nothing was put out
pub answered_at : (words : CommandLine) (refusal : Refusal) (command : Option Command) (shelf shelf' : ShelfState) (out err err' : SinkState)
    → command_of words ≡ command → Composed shelf shelf' words command (Err refusal) → LinePut err err' (line_of refusal)
    → Answered (status_of refusal) words shelf shelf' out out err err'
answered_at words Usage None shelf shelf' out err err' is composed put = (refl, line_of Usage, (is, composed.0, refl), put)
answered_at words (Unread line) None shelf shelf' out err err' is composed put = cc
answered_at words (Refused kind line) None shelf shelf' out err err' is composed put = cc
answered_at words (Table line) None shelf shelf' out err err' is composed put = cc
answered_at words (NotDerived line) None shelf shelf' out err err' is composed put = cc
answered_at words Memory None shelf shelf' out err err' is composed put = cc
answered_at words Usage (Some command) shelf shelf' out err err' is composed put = absurd composed.2
answered_at words (Unread line) (Some command) shelf shelf' out err err' is composed put = (refl, string_bytes line, rw is composed.2, put)
answered_at words (Refused Rules line) (Some command) shelf shelf' out err err' is composed put = (refl, string_bytes line, rw is composed.2, put)
answered_at words (Refused Catalogue line) (Some command) shelf shelf' out err err' is composed put = (refl, string_bytes line, rw is composed.2, put)
answered_at words (Refused Query line) (Some command) shelf shelf' out err err' is composed put = (refl, string_bytes line, rw is composed.2, put)
answered_at words (Refused Derivation line) (Some command) shelf shelf' out err err' is composed put = (refl, string_bytes line, rw is composed.2, put)
answered_at words (Table line) (Some command) shelf shelf' out err err' is composed put = (refl, string_bytes line, rw is composed.2, put)
answered_at words (NotDerived line) (Some command) shelf shelf' out err err' is composed put = (refl, string_bytes line, rw is composed.2, put)
answered_at words Memory (Some command) shelf shelf' out err err' is composed put = (refl, line_of Memory, (rw is refl, refl), put)

-- what the shelf holds stays, no count falls, and no more files are asked for than the command has
pub shelf_kept : (words : CommandLine) (command : Option Command) (shelf shelf' : ShelfState) (result : Result Pieces Refusal)
    → Composed shelf shelf' words command result → GoesBy (calls_of words command) shelf shelf'
shelf_kept words None shelf shelf' result composed =
    let same = composed.0 in
    rw same (record { held = refl; calls = record { kept = omega arith; bound = omega arith }; faults = omega arith; taken = omega arith })
shelf_kept words (Some command) shelf shelf' result composed = composed.0

-- all was put out
pub output_at : (ending : Ending) (words : CommandLine) (command : Option Command) (shelf shelf' : ShelfState) (out out' err : SinkState) (pieces : Pieces)
    → command_of words ≡ command → Composed shelf shelf' words command (Ok pieces) → pieces.ending ≡ ending
    → RoseAtMost (length (pieces_of pieces)) out.puts out'.puts → Adds out.taken (concat (pieces_of pieces)) out'.taken → out'.faults ≡ out.faults
    → Output ending words shelf shelf' out out' err err
output_at ending words None shelf shelf' out out' err pieces is composed ends puts added same = absurd cc
output_at ending words (Some command) shelf shelf' out out' err pieces is composed ends puts added same =
    rw is (
      composed.2.0,
      pieces_of pieces,
      subst (λ (f : Ending). IsAnswered command shelf.held (requests_of command words) f (pieces_of pieces)) ends composed.2.1,
      record { added = added; faults = same; puts = puts; silent = refl },
    )

-- a part was put out
pub part_at : (words : CommandLine) (command : Option Command) (shelf shelf' : ShelfState) (out out' err err' : SinkState) (pieces : Pieces)
    → command_of words ≡ command → Composed shelf shelf' words command (Ok pieces)
    → RoseAtMost (length (pieces_of pieces)) out.puts out'.puts → AddsPrefix out.taken (concat (pieces_of pieces)) out'.taken → Rose out.faults out'.faults → LinePut err err' cannot_write
    → Answered statuses.WriteFault words shelf shelf' out out' err err'
part_at words None shelf shelf' out out' err err' pieces is composed puts added rose put = absurd cc
part_at words (Some command) shelf shelf' out out' err err' pieces is composed puts added rose put =
    rw is (composed.2.0, pieces.ending, pieces_of pieces, composed.2.1, record { added = added; rose = rose; puts = puts; told = put })
