-- The run of a workload, of which nothing stands on the shelf.
use Rattle.std.proofs.Common.{◌≡◌, ℕ, List, [], ◌∷◌, Option, refl}
use Rattle.std.specs.Prelude.{Some, None, Result, Ok}
use Rattle.sb_outside.specs.Shelf.{Files, ShelfState}
use Rattle.sb_outside.proofs.Laws.{no_call}
use Rattle.star_model.specs.declared.rules.RuleFile.{RuleFile}
use Rattle.star_model.specs.declared.query.Query.{Query as QueryTree}
use Rattle.workload_gen.specs.Workloads.{workload}
use Rattle.workload_gen.specs.declared.workload.Workload.{Workload}
use Rattle.workload_runs.specs.Cases as workloads
use Rattle.workload_runs.specs.Runs.{RunsTo}
use Rattle.workload_runs.specs.declared.tally.Tally.{Tally}
use Rattle.stars_core.specs.declared.command.Command.TheVariants.{Gen}
use Rattle.stars_core.specs.declared.status.Ending.{Ending}
use Rattle.stars_core.specs.declared.status.Ending.TheVariants.{Done, NoPlan}
use Rattle.stars_core.specs.Generating.{IsGenerated}
use Rattle.stars_core.specs.declared.pieces.Pieces.{Pieces}
use Rattle.stars_core.specs.declared.refusal.Refusal.{Refusal}
use Rattle.stars_core.specs.CommandLine.{CommandLine, command_of}
use Rattle.stars_core.specs.Composing.{Ran, AllRan, Composed}
use Rattle.stars_core.specs.Pieces.{HasPieces, pieces_of}
use Rattle.stars_core.specs.Plan.{no_plan}
use Rattle.stars_core.specs.Saying.{SaysWorkload}
use Rattle.stars_core.specs.Tallies.{tally_line}

pub workload_case : (made : Workload) (rules : RuleFile) (query : QueryTree) → workloads.Says made rules query → SaysWorkload made rules query
workload_case made rules query says = record {
  of_rules = record { of_rules = says.of_rules; formed = says.formed_rules; fits = says.fits; accepted = says.accepted };
  spelled = says.spelled;
  of_catalogue = says.of_catalogue;
  of_query = says.of_query;
  by_rules = says.by_rules;
  formed = says.formed;
}

pub run_is_done : (seed size : ℕ) (tally : Tally) (text : List ℕ) → RunsTo (workload seed size) (Some tally) → text ≡ tally_line seed size tally → IsGenerated seed size Done text
run_is_done seed size tally text runs told = record {
  rules = runs.rules;
  query = runs.query;
  says = workload_case (workload seed size) runs.rules runs.query runs.says;
  line = (tally, runs.numbers, told);
}

pub run_has_no_plan : (seed size : ℕ) (text : List ℕ) → RunsTo (workload seed size) None → text ≡ no_plan → IsGenerated seed size NoPlan text
run_has_no_plan seed size text runs told = record {
  rules = runs.rules;
  query = runs.query;
  says = workload_case (workload seed size) runs.rules runs.query runs.says;
  line = (runs.numbers, told);
}

pub generated_pieces : (seed size : ℕ) (told : Option Files) (ending : Ending) (text : List ℕ) (pieces : List (List ℕ)) → IsGenerated seed size ending text → pieces ≡ text ∷ []
    → HasPieces (Gen seed size) told [] ending pieces
generated_pieces seed size told ending text pieces is are = record {
  text = text;
  answer = record { saying = (is.rules, is.query); says = is.says; answer = is.line };
  more = [];
  further = refl;
  are = are;
}

-- what a run comes to that is made of nothing
pub generated_ran : (seed size : ℕ) (state : ShelfState) (ending : Ending) (text : List ℕ) (pieces : Pieces) → IsGenerated seed size ending text → pieces.ending ≡ ending → pieces_of pieces ≡ text ∷ []
    → Ran (Gen seed size) state state [] (Ok pieces)
generated_ran seed size state ending text pieces is ends are =
    rw ends ((no_call state).1, ([], tt, tt, generated_pieces seed size state.held ending text (pieces_of pieces) is are))

-- no file is asked for
pub generated_composed : (words : CommandLine) (seed size : ℕ) (state : ShelfState) (result : Result Pieces Refusal) → command_of words ≡ Some (Gen seed size) → AllRan seed size result
    → Composed state state words (command_of words) result
generated_composed words seed size state result is ran = rw is ((no_call state).0, tt, ran state)
