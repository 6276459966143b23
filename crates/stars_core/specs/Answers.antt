-- The answers of the top call, with the cause of each.
use Rattle.std.specs.Prelude.{◌≡◌, ◌⊎◌, ℕ, List, length, Option, None, IsSomeAnd, IsSome}
use Rattle.std.specs.List.{concat}
use Rattle.sb_outside.specs.Counts.{Rose, RoseAtMost}
use Rattle.sb_outside.specs.Shelf.{Files, ShelfState, NoFault}
use Rattle.sb_outside.specs.Sink.{SinkState, Adds, AddsPrefix}
use Rattle.stars_core.specs.declared.command.Command.{Command}
use Rattle.stars_core.specs.declared.refusal.TextKind.{TextKind}
use Rattle.stars_core.specs.declared.refusal.TextKind.TheVariants as kinds
use Rattle.stars_core.specs.declared.status.Ending.{Ending}
use Rattle.stars_core.specs.declared.status.Ending.TheVariants as endings
use Rattle.stars_core.specs.declared.status.Status.{Status}
use Rattle.stars_core.specs.declared.status.Status.TheVariants.{Done, NoPlan, Usage, RulesRefused, CatalogueRefused, QueryRefused, TableRefused, ReadFault, WriteFault, Memory, NotDerived, DerivationRefused}
use Rattle.stars_core.specs.CommandLine.{CommandLine, command_of, requests_of}
use Rattle.stars_core.specs.Lines.{usage_line, cannot_write, out_of_memory}
use Rattle.stars_core.specs.Given.{Given}
use Rattle.stars_core.specs.Pieces.{HasPieces}
use Rattle.stars_core.specs.Shelves.{RefusedAt, UnreadAt, DeniedOf}
use Rattle.stars_core.specs.Running.{TableUnreadAt, TableRefusedAt}
use Rattle.stars_core.specs.Composing.{Puts}

-- the words are a listed form, and P holds of the command
abbrev pub OfCommand : CommandLine → (Command → Type 0) → Type 0
OfCommand words P = IsSomeAnd (command_of words) P

-- a text is refused with this line
abbrev pub RefusedBy : TextKind → CommandLine → ShelfState → ShelfState → List ℕ → Type 0
RefusedBy kind words before now line = OfCommand words (λ command. RefusedAt before now (requests_of command words) kind line)

-- a table is
abbrev pub TableRefusedBy : CommandLine → ShelfState → ShelfState → List ℕ → Type 0
TableRefusedBy words before now line = OfCommand words (λ command. TableRefusedAt command before now (requests_of command words) line)

-- the shelf failed at one of the command's texts, or at a table
abbrev pub Unreadable : CommandLine → ShelfState → ShelfState → List ℕ → Type 0
Unreadable words before now line = OfCommand words (λ command.
    UnreadAt before now (requests_of command words) line ⊎ TableUnreadAt command before now (requests_of command words) line)

-- why a status comes with which nothing is put out, and its line
abbrev pub Caused : Status → CommandLine → ShelfState → ShelfState → List ℕ → Type 0
Caused Usage words before now line = (command_of words ≡ None) × (now ≡ before) × (line ≡ usage_line)
Caused RulesRefused words before now line = RefusedBy kinds.Rules words before now line
Caused CatalogueRefused words before now line = RefusedBy kinds.Catalogue words before now line
Caused QueryRefused words before now line = RefusedBy kinds.Query words before now line
Caused DerivationRefused words before now line = RefusedBy kinds.Derivation words before now line
Caused TableRefused words before now line = TableRefusedBy words before now line
Caused NotDerived words before now line = OfCommand words (λ command. DeniedOf command before now (requests_of command words) line)
Caused ReadFault words before now line = Unreadable words before now line
Caused Memory words before now line = IsSome (command_of words) × (line ≡ out_of_memory)
Caused _ words before now line = ⊥

-- a line was put, or a prefix of it and the sink failed
pub record LinePut (before now : SinkState) (line : List ℕ) : Type 0 where
  pub puts : RoseAtMost 1 before.puts now.puts
  pub added : Adds before.taken line now.taken ⊎ (AddsPrefix before.taken line now.taken × Rose before.faults now.faults)

-- the pieces of a command were put out, all of them
pub record AllPut (pieces : List (List ℕ)) (out out' err err' : SinkState) : Type 0 where
  pub added : Adds out.taken (concat pieces) out'.taken
  pub faults : out'.faults ≡ out.faults
  pub puts : RoseAtMost (length pieces) out.puts out'.puts
  pub silent : err' ≡ err

-- a part of them was, and then the sink failed
pub record PartPut (pieces : List (List ℕ)) (out out' err err' : SinkState) : Type 0 where
  pub added : AddsPrefix out.taken (concat pieces) out'.taken
  pub rose : Rose out.faults out'.faults
  pub puts : RoseAtMost (length pieces) out.puts out'.puts
  pub told : LinePut err err' cannot_write

abbrev pub Output : Ending → CommandLine → ShelfState → ShelfState → SinkState → SinkState → SinkState → SinkState → Type 0
Output ending words shelf shelf' out out' err err' = OfCommand words (λ command.
    NoFault shelf shelf' × (pieces : List (List ℕ)) × Puts command shelf.held words ending pieces × AllPut pieces out out' err err')

-- each status, with its cause and with what it puts
abbrev pub Answered : Status → CommandLine → ShelfState → ShelfState → SinkState → SinkState → SinkState → SinkState → Type 0
Answered Done words shelf shelf' out out' err err' = Output endings.Done words shelf shelf' out out' err err'
Answered NoPlan words shelf shelf' out out' err err' = Output endings.NoPlan words shelf shelf' out out' err err'
Answered WriteFault words shelf shelf' out out' err err' = OfCommand words (λ command.
    NoFault shelf shelf' × (ending : Ending) × (pieces : List (List ℕ)) × Puts command shelf.held words ending pieces × PartPut pieces out out' err err')
Answered status words shelf shelf' out out' err err' =
    (out' ≡ out) × (line : List ℕ) × Caused status words shelf shelf' line × LinePut err err' line

-- what a run that is done put out are the pieces of the command's answer of what some texts say
abbrev pub DoneSays : CommandLine → SinkState → SinkState → Type 0
DoneSays words out out' = OfCommand words (λ command.
    (told : Option Files) × (given : List Given) × (pieces : List (List ℕ))
    × HasPieces command told given endings.Done pieces × Adds out.taken (concat pieces) out'.taken)
