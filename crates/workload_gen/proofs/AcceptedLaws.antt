-- The texts of a workload are accepted.
use Rattle.std.proofs.Common.{◌≡◌, ℕ, ◌≤◌, [], ◌∷◌, None, arith}
use Rattle.sb_text.specs.Refusal.{fault_of}
use Rattle.spelling.specs.Shallow.{IsShallow}
use Rattle.spelling.proofs.Laws.{no_deep_fault}
use Rattle.catalogue.specs.Faults as of_catalogue
use Rattle.catalogue.proofs.Laws.{accepted_spells}
use Rattle.query_graph.specs.Faults as of_query
use Rattle.query_graph.specs.Queries.{query_lexemes}
use Rattle.query_graph.proofs.Laws.{good_query}
use Rattle.workload_gen.specs.Tables.{drawn_tables}
use Rattle.workload_gen.specs.CatalogueText.{catalogue_text}
use Rattle.workload_gen.specs.QueryText.{query_statement, query_text}
use Rattle.workload_gen.specs.Trees.{catalogue_tree, query_tree}
use Rattle.workload_gen.specs.Workloads.{IsSize}
use Rattle.workload_gen.proofs.NumberLaws.{each_number}
use Rattle.workload_gen.proofs.StatementLaws.{query_says}
use Rattle.workload_gen.proofs.CatalogueTrees.{spells_catalogue, formed_catalogue}
use Rattle.workload_gen.proofs.QueryTrees.{spells_query, formed_query}

pub accepts_catalogue : (seed size : ℕ) → IsSize size → of_catalogue.IsAccepted (catalogue_text (drawn_tables seed size)) (catalogue_tree (drawn_tables seed size))
accepts_catalogue seed size is =
    let tables = drawn_tables seed size in
    (accepted_spells (catalogue_text tables) (catalogue_tree tables)).1 (spells_catalogue seed size is, formed_catalogue seed size is)

abbrev Shallow : ℕ → Type 0
Shallow size = IsShallow (query_lexemes (query_statement size))

a_shallow_query : (size : ℕ) → size ≤ 8 → Shallow size
a_shallow_query size few =
    each_number Shallow (record { short = omega arith; few = omega arith }) (record { short = omega arith; few = omega arith }) (record { short = omega arith; few = omega arith })
    (record { short = omega arith; few = omega arith }) (record { short = omega arith; few = omega arith }) (record { short = omega arith; few = omega arith })
    (record { short = omega arith; few = omega arith }) (record { short = omega arith; few = omega arith }) (record { short = omega arith; few = omega arith }) size few

pub accepts_query : (seed size : ℕ) → IsSize size → of_query.IsAccepted (catalogue_tree (drawn_tables seed size)) (query_text size) (query_tree (drawn_tables seed size))
accepts_query seed size is =
    let tables = drawn_tables seed size in
    let clear : fault_of (query_text size) ≡ None =
    no_deep_fault (query_text size) (query_lexemes (query_statement size) ∷ []) (query_says size is).are (a_shallow_query size is.1, tt) in
    let spells = spells_query seed size is in
    let formed = formed_query seed size is in
    record { spells = spells; formed = formed; clear = good_query (catalogue_tree tables) (query_text size) (query_tree tables) clear spells formed }
