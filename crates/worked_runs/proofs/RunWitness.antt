-- The files of a run of which the clauses speak: its table holds no row.
use Rattle.std.proofs.Common.{◌≡◌, ℕ, List, [], ◌∷◌, ◌++◌, if◌then◌else◌, None, Some, refl, sym, arith, codes}
use Rattle.std.specs.Prelude.{Contains}
use Prim.Native.Nat.{zero, suc}
use Rattle.std.specs.Str.{bytes_eq}
use Rattle.csv.specs.Machine.{next_record}
use Rattle.csv.specs.Reading.{records_from, strip_bom}
use Rattle.sb_outside.specs.Shelf.{Files, ShelfState}
use Rattle.sb_outside.specs.Records.{records_of}
use Rattle.star_model.specs.Data.{table_rows}
use Rattle.star_model.specs.Selectivity.{selects_of, weighed}
use Rattle.star_model.specs.declared.query.Query.{Query as QueryTree}
use Rattle.rule_grammar.specs.Tiny.{tiny_rules}
use Rattle.table_taking.specs.QueryTables.{tables_of}
use Rattle.table_taking.specs.Told.{HoldsTable}
use Rattle.stars_core.specs.CommandLine.{CommandLine}
use Rattle.stars_core.specs.Saying.{three}
use Rattle.stars_core.proofs.Laws.{three_pass, says_case}
use Rattle.worked_runs.specs.SomeTold.{SomeRunTold}
use Rattle.worked_runs.proofs.TinyRules.{tiny_text, tiny_passes}
use Rattle.worked_runs.proofs.Witness.{catalogue, catalogue_text, query_text, query, catalogue_passes, query_passes}

-- the header of the table alone
abbrev table_text : List ℕ
table_text = codes "a" ++ 10 ∷ []

abbrev files : Files
files name =
    if bytes_eq name (codes "r") then Some tiny_text
    else if bytes_eq name (codes "c") then Some catalogue_text
    else if bytes_eq name (codes "f") then Some table_text
    else Some query_text

abbrev asked : QueryTree
asked = weighed (selects_of tiny_rules) query

only_table : (n : ℕ) → Contains (tables_of asked) n → n ≡ 0
unfolding weighed
only_table n (zero, within, is) = sym is
only_table n (suc k, within, is) = absurd (omega (arith, within))

no_rows : table_rows catalogue 0 (records_of table_text) ≡ Some []
unfolding next_record records_from strip_bom
no_rows = refl

first_holds : HoldsTable asked files 0
unfolding weighed
first_holds = record { bytes = table_text; held = refl; within = omega arith; rows = []; are = no_rows }

holds : (n : ℕ) → Contains (tables_of asked) n → HoldsTable asked files n
holds n in_ = rw (only_table n in_) first_holds

pub some_run_told : SomeRunTold
some_run_told =
    let words : CommandLine = codes "run" ∷ codes "r" ∷ codes "c" ∷ codes "q" ∷ [] in
    let shelf : ShelfState = record { held = Some files; faults = 0; calls = 0; taken = 0; last_failed = None } in (
      words,
      shelf,
      three tiny_text catalogue_text query_text,
      (tiny_rules, asked),
      record {
        files = files;
        told = refl;
        listed = refl;
        held = (refl, refl, (refl, refl, (refl, refl, tt)));
        accepted = three_pass tiny_text catalogue_text query_text tiny_rules catalogue query tiny_passes catalogue_passes query_passes;
        says = says_case tiny_text catalogue_text query_text tiny_rules catalogue query tiny_passes catalogue_passes query_passes;
      },
      (λ plan. holds),
    )
