-- What a status says of the words and of the shelf's faults.
use Rattle.std.proofs.Common.{◌≡◌, ◌⊎◌, ◌↔◌, ◌<◌, ℕ, List, Option, None, Some, Ok, Err, arith, refl, sym, ◌∙◌, inl, inr, string_bytes}
use Rattle.sb_outside.specs.Shelf.{ShelfState, NoFault}
use Rattle.sb_outside.proofs.Laws.{no_fault_on}
use Rattle.stars_core.specs.declared.command.Command.{Command}
use Rattle.stars_core.specs.declared.command.Command.TheVariants as commands
use Rattle.stars_core.specs.declared.refusal.TextKind.TheVariants.{Rules, Catalogue, Query, Derivation}
use Rattle.stars_core.specs.declared.refusal.Refusal.{Refusal}
use Rattle.stars_core.specs.declared.refusal.Refusal.TheVariants.{Usage, Unread, Refused, Table, NotDerived, Memory}
use Rattle.stars_core.specs.declared.status.Status.{Status}
use Rattle.stars_core.specs.declared.status.Status.TheVariants as statuses
use Rattle.stars_core.specs.declared.pieces.Pieces.{Pieces}
use Rattle.stars_core.specs.CommandLine.{CommandLine, Request, command_of}
use Rattle.stars_core.specs.Lines.{status_of}
use Rattle.stars_core.specs.Running.{TableRefusedAt}
use Rattle.stars_core.specs.Composing.{Composed}

abbrev MeansUsage : CommandLine → Status → Type 0
MeansUsage words status = (status ≡ statuses.Usage) ↔ (command_of words ≡ None)

-- a status that isn't Usage, where the words are a command
listed : (words : CommandLine) (command : Command) (status : Status) → command_of words ≡ Some command → (status ≡ statuses.Usage → ⊥) → MeansUsage words status
listed words command status is other = (λ e. absurd (other e), λ none. let e : Some command ≡ None = sym is ∙ none in absurd cc)

-- the words are no command exactly where the status says so
pub usage_at : (words : CommandLine) (refusal : Refusal) (command : Option Command) (shelf shelf' : ShelfState) → command_of words ≡ command
    → Composed shelf shelf' words command (Err refusal) → MeansUsage words (status_of refusal)
usage_at words Usage None shelf shelf' is composed = (λ e. is, λ e. refl)
usage_at words (Unread line) None shelf shelf' is composed = let e = composed.1 in absurd cc
usage_at words (Refused kind line) None shelf shelf' is composed = let e = composed.1 in absurd cc
usage_at words (Table line) None shelf shelf' is composed = let e = composed.1 in absurd cc
usage_at words (NotDerived line) None shelf shelf' is composed = let e = composed.1 in absurd cc
usage_at words Memory None shelf shelf' is composed = let e = composed.1 in absurd cc
usage_at words Usage (Some command) shelf shelf' is composed = absurd composed.2
usage_at words (Unread line) (Some command) shelf shelf' is composed = listed words command statuses.ReadFault is (λ e. cc)
usage_at words (Refused Rules line) (Some command) shelf shelf' is composed = listed words command statuses.RulesRefused is (λ e. cc)
usage_at words (Refused Catalogue line) (Some command) shelf shelf' is composed = listed words command statuses.CatalogueRefused is (λ e. cc)
usage_at words (Refused Query line) (Some command) shelf shelf' is composed = listed words command statuses.QueryRefused is (λ e. cc)
usage_at words (Refused Derivation line) (Some command) shelf shelf' is composed = listed words command statuses.DerivationRefused is (λ e. cc)
usage_at words (Table line) (Some command) shelf shelf' is composed = listed words command statuses.TableRefused is (λ e. cc)
usage_at words (NotDerived line) (Some command) shelf shelf' is composed = listed words command statuses.NotDerived is (λ e. cc)
usage_at words Memory (Some command) shelf shelf' is composed = listed words command statuses.Memory is (λ e. cc)

-- ---- faults of the shelf

rises_not : {P : Type 0} (shelf shelf' : ShelfState) → NoFault shelf shelf' → shelf.faults < shelf'.faults → P
rises_not shelf shelf' quiet rose = let same = quiet.faults in absurd (omega (arith, same, rose))

-- a table was refused, and no call failed
quiet_table : (command : Command) (shelf shelf' : ShelfState) (requests : List Request) (line : List ℕ) → TableRefusedAt command shelf shelf' requests line → NoFault shelf shelf'
quiet_table commands.Run shelf shelf' requests line t = no_fault_on shelf t.0 shelf' t.3.quiet t.4.0
quiet_table commands.Check shelf shelf' requests line t = absurd t
quiet_table commands.Plan shelf shelf' requests line t = absurd t
quiet_table commands.Frontier shelf shelf' requests line t = absurd t
quiet_table commands.Verify shelf shelf' requests line t = absurd t
quiet_table (commands.Gen seed size) shelf shelf' requests line t = absurd t

-- where there are pieces, no call failed
pub pieces_quiet : {P : Type 0} (words : CommandLine) (command : Option Command) (shelf shelf' : ShelfState) (pieces : Pieces) → Composed shelf shelf' words command (Ok pieces)
    → shelf.faults < shelf'.faults → P
pieces_quiet words None shelf shelf' pieces composed rose = let e = composed.1 in absurd cc
pieces_quiet words (Some command) shelf shelf' pieces composed rose = rises_not shelf shelf' composed.2.0 rose

abbrev IsReadFault : Status → Type 0
IsReadFault status = (status ≡ statuses.ReadFault) ⊎ (status ≡ statuses.Memory)

-- where one failed, the status says so, or memory was wanting
pub read_fault_at : (words : CommandLine) (refusal : Refusal) (command : Option Command) (shelf shelf' : ShelfState) → Composed shelf shelf' words command (Err refusal)
    → shelf.faults < shelf'.faults → IsReadFault (status_of refusal)
read_fault_at words refusal None shelf shelf' composed rose = let same = composed.0 in absurd (omega (arith, rw same at rose))
read_fault_at words Usage (Some command) shelf shelf' composed rose = absurd composed.2
read_fault_at words (Unread line) (Some command) shelf shelf' composed rose = inl refl
read_fault_at words (Refused kind line) (Some command) shelf shelf' composed rose = rises_not shelf shelf' composed.2.6.quiet rose
read_fault_at words (Table line) (Some command) shelf shelf' composed rose = rises_not shelf shelf' (quiet_table command shelf shelf' _ (string_bytes line) composed.2) rose
read_fault_at words (NotDerived line) (Some command) shelf shelf' composed rose = rises_not shelf shelf' composed.2.0 rose
read_fault_at words Memory (Some command) shelf shelf' composed rose = inr refl
