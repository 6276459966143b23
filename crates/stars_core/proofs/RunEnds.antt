-- A run behind its three texts.
use Rattle.std.proofs.Common.{◌≡◌, ◌≤◌, ◌+◌, ◌⊎◌, ℕ, List, [], ◌∷◌, length, Option, Some, Result, Ok, Err, refl, subst, inl, inr, arith}
use Rattle.sb_outside.specs.Shelf.{Files, ShelfState, GoesBy}
use Rattle.sb_outside.proofs.Laws.{no_call, goes_on, no_fault_on}
use Rattle.star_model.specs.Answers.{Data}
use Rattle.star_model.specs.WellFormed.{WellFormedQuery}
use Rattle.star_model.specs.declared.rules.RuleFile.{RuleFile}
use Rattle.star_model.specs.declared.query.Query.{Query as QueryTree}
use Rattle.lolepop.specs.Derived.{DerivedPlan, vector_of}
use Rattle.derivation_reading.specs.Derivations.{canonical}
use Rattle.spelling.specs.Layout.{commented}
use Rattle.table_taking.specs.QueryTables.{tables_of, AreRows}
use Rattle.row_answers.specs.RowsTexts.{RowsText}
use Rattle.table_taking.specs.Taking.{StoppedBy}
use Rattle.table_taking.specs.declared.stop.Stop.{Stop}
use Rattle.table_taking.specs.declared.stop.Stop.TheVariants as stops
use Rattle.table_taking.proofs.Laws.{few_tables}
use Rattle.stars_core.specs.declared.command.Command.TheVariants.{Run}
use Rattle.stars_core.specs.declared.pieces.Pieces.{Pieces}
use Rattle.stars_core.specs.declared.refusal.Refusal.{Refusal}
use Rattle.stars_core.specs.declared.refusal.Refusal.TheVariants.{Usage, Unread, Refused, Table, NotDerived, Memory}
use Rattle.stars_core.specs.declared.status.Ending.{Ending}
use Rattle.stars_core.specs.declared.status.Ending.TheVariants.{Done, NoPlan}
use Rattle.stars_core.specs.CommandLine.{three_requests}
use Rattle.stars_core.specs.Plan.{HasPlan, HasNoPlan, IsFound, numbers, no_plan}
use Rattle.stars_core.specs.Refusals.{refusal_of}
use Rattle.stars_core.specs.Saying.{SaysCase, three}
use Rattle.stars_core.specs.Pieces.{pieces_of, HasPieces}
use Rattle.stars_core.specs.Shelves.{CameAlong}
use Rattle.stars_core.specs.Running.{SaysOf, CameToTables, FewCalls, RunPieces, RunStops, CaseRun}
use Rattle.stars_core.specs.Composing.{Ran}
use Rattle.stars_core.proofs.PlanTexts.{is_planned}
use Rattle.stars_core.proofs.Says.{spelled_plan}

-- where a table isn't taken
pub stops_run : (rules : RuleFile) (query : QueryTree) (before now : ShelfState) → HasPlan rules query → (stop : Stop) → StoppedBy query before now stop
    → RunStops rules query before now (refusal_of stop)
stops_run rules query before now plan (stops.Unread line) stopped = (plan, stopped)
stops_run rules query before now plan (stops.Refused line) stopped = (plan, stopped)
stops_run rules query before now plan stops.Memory stopped = tt

-- a plan that is found is one
pub plan_found : (rules : RuleFile) (query : QueryTree) (e : DerivedPlan) → IsFound rules query (Some e) → HasPlan rules query
plan_found rules query e found = (e.deriv, vector_of e, found.0.root)

-- where there is no plan
pub none_run : (rules : RuleFile) (query : QueryTree) (state : ShelfState) → HasNoPlan rules query → (pieces : Pieces) (text : List ℕ)
    → pieces.ending ≡ NoPlan → pieces_of pieces ≡ text ∷ [] → text ≡ no_plan → CaseRun rules query state state (Ok pieces)
none_run rules query state none pieces text ends are told = ((no_call state).1, rw ends (text, (none, told), are))

-- where there are rows
pub done_run : (rules : RuleFile) (query : QueryTree) (before : ShelfState) → WellFormedQuery query → (e : DerivedPlan) → IsFound rules query (Some e)
    → (text rows : List ℕ) → text ≡ commented (numbers (vector_of e)) (canonical e.deriv) → (data_ : Data) → AreRows query before.held data_ → RowsText query data_ rows
    → RunPieces rules query before.held Done (text ∷ rows ∷ [])
done_run rules query before formed e found text rows told data_ are rows_are =
    (text, rows, is_planned query rules e.deriv (vector_of e) text formed found.0 found.1 told, (data_, are, rows_are), refl)

-- the pieces are those of texts that say the case
has_pieces : (r c q : List ℕ) (rules : RuleFile) (query : QueryTree) → SaysCase r c q rules query → (told : Option Files) (ending : Ending) (pieces : List (List ℕ))
    → RunPieces rules query told ending pieces → HasPieces Run told (three r c q) ending pieces
has_pieces r c q rules query says told Done pieces ps = record {
  text = ps.0;
  answer = record { saying = (rules, query); says = says; answer = spelled_plan r rules query says.of_rules Done ps.0 ps.2 };
  more = ps.1 ∷ [];
  further = (ps.1, ps.3, refl);
  are = ps.4;
}
has_pieces r c q rules query says told NoPlan pieces ps = record {
  text = ps.0;
  answer = record { saying = (rules, query); says = says; answer = spelled_plan r rules query says.of_rules NoPlan ps.0 ps.1 };
  more = [];
  further = refl;
  are = ps.2;
}

module _ (before mid now : ShelfState) (rs cs qs r c q : List ℕ) (rules : RuleFile) (query : QueryTree)
    (along : CameAlong before mid (three_requests rs cs qs) (three r c q)) (says : SaysCase r c q rules query) where
  says_of : SaysOf before.held (three_requests rs cs qs) rules query
  says_of = record { given = three r c q; held = along.held; accepted = along.accepted; says = says }

  to_tables : HasPlan rules query → CameToTables before mid (three_requests rs cs qs) rules query
  to_tables plan = record { by = along.by; quiet = along.quiet; case_ = says_of; planned = plan }

  pub run_ran : (result : Result Pieces Refusal) → CaseRun rules query mid now result → Ran Run before now (three_requests rs cs qs) result
  run_ran (Ok pieces) ran =
      let told = subst (λ (x : Option Files). RunPieces rules query x pieces.ending (pieces_of pieces)) along.by.held ran.1 in (
        no_fault_on before mid now along.quiet ran.0,
        (three r c q, along.held, along.accepted, has_pieces r c q rules query says before.held pieces.ending (pieces_of pieces) told),
      )
  run_ran (Err (Unread line)) ran = inr (mid, rules, query, to_tables ran.0, ran.1)
  run_ran (Err (Table line)) ran = (mid, rules, query, to_tables ran.0, ran.1)
  run_ran (Err Memory) ran = tt
  run_ran (Err Usage) ran = absurd ran
  run_ran (Err (Refused kind line)) ran = absurd ran
  run_ran (Err (NotDerived line)) ran = absurd ran

  pub run_few : GoesBy (length (tables_of query)) mid now → (now.calls ≤ mid.calls) ⊎ HasPlan rules query → FewCalls Run before now (three_requests rs cs qs)
  run_few goes (inl same) =
      let first : mid.calls ≤ before.calls + 3 = along.by.calls.bound in inl (omega arith)
  run_few goes (inr plan) =
      let first : mid.calls ≤ before.calls + 3 = along.by.calls.bound in
      let then : now.calls ≤ mid.calls + length (tables_of query) = goes.calls.bound in inr (rules, query, says_of, plan, omega arith)

  pub run_goes : GoesBy (length (tables_of query)) mid now → GoesBy 15 before now
  run_goes goes =
      let few : length (tables_of query) ≤ 12 = few_tables query says.formed in
      let first : mid.calls ≤ before.calls + 3 = along.by.calls.bound in
      let then : now.calls ≤ mid.calls + length (tables_of query) = goes.calls.bound in
      let all = goes_on before mid now 3 (length (tables_of query)) along.by goes in
      record { held = all.held; calls = record { kept = all.calls.kept; bound = omega arith }; faults = all.faults; taken = all.taken }

-- a run that ends with its texts
pub three_goes : (before now : ShelfState) → GoesBy 3 before now → GoesBy 15 before now
three_goes before now goes =
    let bound = goes.calls.bound in
    record { held = goes.held; calls = record { kept = goes.calls.kept; bound = omega arith }; faults = goes.faults; taken = goes.taken }
