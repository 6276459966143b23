-- What a command comes to where the shelf tells what it holds.
use Rattle.std.specs.Prelude.{◌≡◌, ◌≤◌, ◌+◌, ◌⊎◌, ℕ, List, [], length, take, slice_get, Some}
use Rattle.sb_outside.specs.Counts.{Rose, RoseAtMost}
use Rattle.sb_outside.specs.Shelf.{Files, ShelfState}
use Rattle.sb_outside.specs.Sink.{SinkState}
use Rattle.star_model.specs.Derivations.{IsRoot}
use Rattle.star_model.specs.declared.rules.RuleFile.{RuleFile}
use Rattle.star_model.specs.declared.query.Query.{Query as QueryTree}
use Rattle.star_model.specs.declared.derivations.Deriv.{Deriv}
use Rattle.star_model.specs.declared.plans.Props.{Props}
use Rattle.table_taking.specs.QueryTables.{tables_of}
use Rattle.workload_gen.specs.Workloads.{workload}
use Rattle.table_taking.specs.Told.{HoldsTables, FirstRefused}
use Rattle.stars_core.specs.declared.command.Command.{Command}
use Rattle.stars_core.specs.declared.command.Command.TheVariants as commands
use Rattle.stars_core.specs.declared.status.Status.{Status}
use Rattle.stars_core.specs.declared.status.Status.TheVariants.{Done, NoPlan, TableRefused, Memory, NotDerived}
use Rattle.stars_core.specs.CommandLine.{CommandLine, Request, command_of, requests_of}
use Rattle.stars_core.specs.Lines.{refused_status}
use Rattle.stars_core.specs.Given.{Given}
use Rattle.stars_core.specs.Faults.{Stops, PassAll}
use Rattle.stars_core.specs.Plan.{HasPlan, HasNoPlan}
use Rattle.stars_core.specs.Saying.{Saying, Says, SaysWorkload}
use Rattle.stars_core.specs.Shelves.{HeldAs}
use Rattle.stars_core.specs.Answers.{LinePut}

-- how planning has to end
abbrev pub PlanEnds : RuleFile → QueryTree → Status → Type 0
PlanEnds rules query status =
    ((status ≡ Done) × (d : Deriv) × (v : Props) × IsRoot query rules d v)
    ⊎ ((status ≡ NoPlan) × ((d : Deriv) (v : Props) → IsRoot query rules d v → ⊥))

-- how each command has to end, by what its texts say
abbrev pub Ends : (command : Command) → Saying command → Status → Type 0
Ends commands.Check rules status = status ≡ Done
Ends commands.Plan saying status = PlanEnds saying.0 saying.1 status
Ends commands.Run saying status = PlanEnds saying.0 saying.1 status
Ends commands.Frontier saying status = PlanEnds saying.0 saying.1 status
Ends commands.Verify saying status =
    ((status ≡ Done) × (v : Props) × IsRoot saying.1 saying.0 saying.2 v)
    ⊎ ((status ≡ NotDerived) × ((v : Props) → IsRoot saying.1 saying.0 saying.2 v → ⊥))
Ends (commands.Gen seed size) saying status = PlanEnds saying.0 saying.1 status

-- all files of a command that the shelf tells, and what they say
pub record AllTold (words : CommandLine) (shelf : ShelfState) (command : Command) (given : List Given) (saying : Saying command) : Type 0 where
  pub files : Files
  pub told : shelf.held ≡ Some files
  pub listed : command_of words ≡ Some command
  pub held : HeldAs (Some files) (requests_of command words) given
  pub accepted : PassAll [] given
  pub says : Says command given saying

-- the tables that a command reads are told, and hold rows: a run's, where its query has a plan
abbrev pub TablesTold : (command : Command) → Files → Saying command → Type 0
TablesTold commands.Run files saying = HasPlan saying.0 saying.1 → HoldsTables saying.1 files
TablesTold commands.Check files saying = Unit {0}
TablesTold commands.Plan files saying = Unit {0}
TablesTold commands.Frontier files saying = Unit {0}
TablesTold commands.Verify files saying = Unit {0}
TablesTold (commands.Gen seed size) files saying = Unit {0}

-- Where all files are told and say something, its tables hold rows, and nothing fails, the command ends as it has to.
abbrev pub Complete : Status → CommandLine → ShelfState → ShelfState → SinkState → SinkState → Type 0
Complete status words shelf shelf' out out' =
    (command : Command) (given : List Given) (saying : Saying command) → (told : AllTold words shelf command given saying)
    → TablesTold command told.files saying → (Rose shelf.faults shelf'.faults → ⊥) → (Rose out.faults out'.faults → ⊥)
    → (status ≡ Memory) ⊎ Ends command saying status

-- A workload is run whatever the shelf tells: where the first sink doesn't fail, this ends as planning of its query has to.
abbrev pub GenComplete : Status → CommandLine → SinkState → SinkState → Type 0
GenComplete status words out out' =
    (seed size : ℕ) (rules : RuleFile) (query : QueryTree) → command_of words ≡ Some (commands.Gen seed size)
    → SaysWorkload (workload seed size) rules query → (Rose out.faults out'.faults → ⊥)
    → (status ≡ Memory) ⊎ PlanEnds rules query status

-- a told text that is stopped, after told texts that are accepted
pub record StopTold (words : CommandLine) (shelf : ShelfState) (place : ℕ) (this : Request) (earlier : List Given) (bytes line : List ℕ) : Type 0 where
  pub files : Files
  pub told : shelf.held ≡ Some files
  pub command : Command
  pub listed : command_of words ≡ Some command
  pub here : slice_get (requests_of command words) place ≡ Some this
  pub held : HeldAs (Some files) (take place (requests_of command words)) earlier
  pub accepted : PassAll [] earlier
  pub bytes_held : files this.1 ≡ Some bytes
  pub stops : Stops earlier (this.0, bytes) line

-- Where nothing failed, such a text is refused with its line, or memory was wanting.
abbrev pub RefusedExactly : Status → CommandLine → ShelfState → ShelfState → SinkState → SinkState → Type 0
RefusedExactly status words shelf shelf' err err' =
    (place : ℕ) (this : Request) (earlier : List Given) (bytes line : List ℕ) → StopTold words shelf place this earlier bytes line
    → (Rose shelf.faults shelf'.faults → ⊥)
    → (status ≡ Memory) ⊎ ((status ≡ refused_status this.0) × LinePut err err' line)

-- Where the texts of a run are told, its query has a plan, and nothing failed, the first of its tables that doesn't hold rows is
-- refused with its line, or memory was wanting.
abbrev pub TableRefusedExactly : Status → CommandLine → ShelfState → ShelfState → SinkState → SinkState → Type 0
TableRefusedExactly status words shelf shelf' err err' =
    (given : List Given) (saying : Saying commands.Run) → (told : AllTold words shelf commands.Run given saying)
    → HasPlan saying.0 saying.1 → (place : ℕ) (line : List ℕ) → FirstRefused saying.1 told.files place line
    → (Rose shelf.faults shelf'.faults → ⊥)
    → (status ≡ Memory) ⊎ ((status ≡ TableRefused) × LinePut err err' line)

-- ---- bounds

-- Where the texts of a run are told, it calls the shelf three times, and once more for each table where the query has a plan.
pub record RunCalls (words : CommandLine) (shelf shelf' : ShelfState) : Type 0 where
  pub tables : (given : List Given) (saying : Saying commands.Run) → AllTold words shelf commands.Run given saying
      → shelf'.calls ≤ shelf.calls + (3 + length (tables_of saying.1))
  pub unplanned : (given : List Given) (saying : Saying commands.Run) → AllTold words shelf commands.Run given saying
      → HasNoPlan saying.0 saying.1 → shelf'.calls ≤ shelf.calls + 3

-- Where the texts of a run are told and the query has no plan, it puts once.
abbrev pub RunPuts : CommandLine → ShelfState → SinkState → SinkState → Type 0
RunPuts words shelf out out' =
    (given : List Given) (saying : Saying commands.Run) → AllTold words shelf commands.Run given saying
    → HasNoPlan saying.0 saying.1 → RoseAtMost 1 out.puts out'.puts
