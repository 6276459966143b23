-- What a run finds on its shelf behind its three texts.
use Rattle.std.specs.Prelude.{◌≡◌, ◌≤◌, ◌+◌, ◌⊎◌, ℕ, List, [], ◌∷◌, length, Option, Result, Ok, Err, string_bytes}
use Rattle.sb_outside.specs.Shelf.{Files, ShelfState, GoesBy, NoFault}
use Rattle.star_model.specs.declared.rules.RuleFile.{RuleFile}
use Rattle.star_model.specs.declared.query.Query.{Query as QueryTree}
use Rattle.table_taking.specs.QueryTables.{tables_of}
use Rattle.table_taking.specs.Taking as tables
use Rattle.stars_core.specs.declared.command.Command.{Command}
use Rattle.stars_core.specs.declared.command.Command.TheVariants.{Check, Plan, Run, Frontier, Verify, Gen}
use Rattle.stars_core.specs.declared.refusal.Refusal.{Refusal}
use Rattle.stars_core.specs.declared.refusal.Refusal.TheVariants as refusals
use Rattle.stars_core.specs.declared.status.Ending.{Ending}
use Rattle.stars_core.specs.declared.status.Ending.TheVariants.{Done, NoPlan}
use Rattle.stars_core.specs.declared.pieces.Pieces.{Pieces}
use Rattle.stars_core.specs.CommandLine.{Request}
use Rattle.stars_core.specs.Given.{Given}
use Rattle.stars_core.specs.Faults.{PassAll}
use Rattle.stars_core.specs.Plan.{PlanText, HasPlan}
use Rattle.stars_core.specs.Saying.{SaysCase, text_at}
use Rattle.stars_core.specs.Shelves.{HeldAs}
use Rattle.stars_core.specs.Pieces.{pieces_of, QueryRows}

-- the requests stand for texts that are accepted and say these rules and this query
pub record SaysOf (told : Option Files) (requests : List Request) (rules : RuleFile) (query : QueryTree) : Type 0 where
  pub given : List Given
  pub held : HeldAs told requests given
  pub accepted : PassAll [] given
  pub says : SaysCase (text_at given 0) (text_at given 1) (text_at given 2) rules query

-- the three texts were read, by three calls of which none failed, and the query that they say has a plan
pub record CameToTables (before now : ShelfState) (requests : List Request) (rules : RuleFile) (query : QueryTree) : Type 0 where
  pub by : GoesBy 3 before now
  pub quiet : NoFault before now
  pub case_ : SaysOf before.held requests rules query
  pub planned : HasPlan rules query

-- behind the texts P holds of the query, of the shelf then, and of the shelf now
abbrev pub BehindTexts : ShelfState → ShelfState → List Request → (QueryTree → ShelfState → ShelfState → Type 0) → Type 0
BehindTexts before now requests P =
    (mid : ShelfState) × (rules : RuleFile) × (query : QueryTree) × CameToTables before mid requests rules query × P query mid now

-- The shelf failed at the file of a table of the query, which the line names; the tables before it have rows.
abbrev pub TableUnreadAt : Command → ShelfState → ShelfState → List Request → List ℕ → Type 0
TableUnreadAt Run before now requests line =
    BehindTexts before now requests (λ query mid end. tables.UnreadAt query mid end line)
TableUnreadAt Check before now requests line = ⊥
TableUnreadAt Plan before now requests line = ⊥
TableUnreadAt Frontier before now requests line = ⊥
TableUnreadAt Verify before now requests line = ⊥
TableUnreadAt (Gen seed size) before now requests line = ⊥

-- A table of the query is refused with this line; the tables before it have rows.
abbrev pub TableRefusedAt : Command → ShelfState → ShelfState → List Request → List ℕ → Type 0
TableRefusedAt Run before now requests line =
    BehindTexts before now requests (λ query mid end. tables.RefusedAt query mid end line)
TableRefusedAt Check before now requests line = ⊥
TableRefusedAt Plan before now requests line = ⊥
TableRefusedAt Frontier before now requests line = ⊥
TableRefusedAt Verify before now requests line = ⊥
TableRefusedAt (Gen seed size) before now requests line = ⊥

-- A run makes three calls, and one more for each table of the query where this has a plan.
abbrev pub FewCalls : Command → ShelfState → ShelfState → List Request → Type 0
FewCalls Run before now requests =
    (now.calls ≤ before.calls + 3)
    ⊎ ((rules : RuleFile) × (query : QueryTree) × SaysOf before.held requests rules query × HasPlan rules query
    × (now.calls ≤ before.calls + (3 + length (tables_of query))))
FewCalls Check before now requests = Unit {0}
FewCalls Plan before now requests = Unit {0}
FewCalls Frontier before now requests = Unit {0}
FewCalls Verify before now requests = Unit {0}
FewCalls (Gen seed size) before now requests = Unit {0}

-- ---- behind the texts

-- how a run ends, and its pieces
abbrev pub RunPieces : RuleFile → QueryTree → Option Files → Ending → List (List ℕ) → Type 0
RunPieces rules query told Done pieces =
    (text : List ℕ) × (rows : List ℕ) × PlanText rules query Done text × QueryRows told query rows × (pieces ≡ text ∷ rows ∷ [])
RunPieces rules query told NoPlan pieces = (text : List ℕ) × PlanText rules query NoPlan text × (pieces ≡ text ∷ [])

-- why a run has no pieces
abbrev pub RunStops : RuleFile → QueryTree → ShelfState → ShelfState → Refusal → Type 0
RunStops rules query before now (refusals.Unread line) = HasPlan rules query × tables.UnreadAt query before now (string_bytes line)
RunStops rules query before now (refusals.Table line) = HasPlan rules query × tables.RefusedAt query before now (string_bytes line)
RunStops rules query before now refusals.Memory = Unit {0}
RunStops rules query before now refusals.Usage = ⊥
RunStops rules query before now (refusals.Refused kind line) = ⊥
RunStops rules query before now (refusals.NotDerived line) = ⊥

-- what a run makes of its rules and its query
abbrev pub CaseRun : RuleFile → QueryTree → ShelfState → ShelfState → Result Pieces Refusal → Type 0
CaseRun rules query before now (Ok pieces) = NoFault before now × RunPieces rules query before.held pieces.ending (pieces_of pieces)
CaseRun rules query before now (Err refusal) = RunStops rules query before now refusal
