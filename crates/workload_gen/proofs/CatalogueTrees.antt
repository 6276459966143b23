-- The text of the catalogue spells its tree, which is well formed.
use Rattle.std.proofs.Common.{◌≡◌, ℕ, zero, suc, Bool, true, false, not, ◌&&◌, ◌+◌, ◌-◌, ◌<◌, ◌≤◌, if◌then◌else◌, List, [], ◌∷◌, ◌++◌, length, map, Option, Some, refl, sym, ap, ◌∙◌, append_assoc, append-nil, arith}
use Rattle.std.specs.Prelude.{slice_get, option_and_then}
use Rattle.std.specs.List.{range_with_len, list_all}
use Rattle.std.proofs.lemmas.Bool.{le-leb}
use Rattle.std.proofs.lemmas.List.{map-append}
use Rattle.std.proofs.lemmas.List.FromFn.{map-range_with_len_more}
use Rattle.star_model.specs.declared.catalogue.Catalogue.{Catalogue}
use Rattle.star_model.specs.declared.catalogue.TableDef.{TableDef}
use Rattle.star_model.specs.declared.catalogue.IndexDef.{IndexDef}
use Rattle.star_model.specs.Names.{place_of}
use Rattle.star_model.specs.Numbers.{top}
use Rattle.star_model.specs.Vectors.{same_numbers}
use Rattle.star_model.specs.WellFormed.{Each, none, more, differ, is_number, columns_in, WellFormedTable, WellFormedIndex, WellFormedCatalogue}
use Rattle.catalogue.specs.Catalogues.{CatalogueStatement, Index, IndexPart, with_statement, with_statements, catalogue_of, SpellsCatalogue}
use Rattle.workload_gen.specs.declared.tables.DrawnTable.{DrawnTable}
use Rattle.workload_gen.specs.Tables.{drawn_tables}
use Rattle.workload_gen.specs.Links.{IsLinked, AreLinked}
use Rattle.workload_gen.specs.Names.{table_name, index_name}
use Rattle.workload_gen.specs.CatalogueText.{the_site, index_part, statements_from, catalogue_statements, catalogue_text}
use Rattle.workload_gen.specs.Trees.{table_def, table_defs, index_def, index_defs, catalogue_tree}
use Rattle.workload_gen.specs.Workloads.{IsSize}
use Rattle.workload_gen.proofs.LinkLaws.{tables_linked, tables_count}
use Rattle.workload_gen.proofs.NumberLaws.{own_place, table_is_name, index_is_name, tables_differ, file_is_text, length-file, other_index}
use Rattle.workload_gen.proofs.StatementLaws.{catalogue_says}

-- ---- what the statements mean

abbrev names : List TableDef → List (List ℕ)
names tables = map (λ t. t.name) tables

abbrev so_far : List TableDef → List IndexDef → Catalogue
so_far tables indexes = record { sites = the_site ∷ []; tables = tables; indexes = indexes }

bound : {A B : Type 0} (found : Option A) (next : A → Option B) (x : A) (y : Option B) → found ≡ Some x → next x ≡ y → option_and_then next found ≡ y
bound found next x y is after = ap (option_and_then next) is ∙ after

get_last : (tables : List TableDef) (t : TableDef) (k : ℕ) → length tables ≡ k → slice_get (tables ++ t ∷ []) k ≡ Some t
get_last [] t zero len = refl
get_last [] t (suc k) len = absurd (omega arith)
get_last (x ∷ tables) t zero len = absurd (omega arith)
get_last (x ∷ tables) t (suc k) len = get_last tables t k (omega arith)

-- the names of the tables up to one of this number are known
record Knows (k : ℕ) (tables : List TableDef) : Type 0 where
  names_are : names tables ≡ map table_name (range_with_len 1 k)
  count : length tables ≡ k

knows_more : (k : ℕ) (tables : List TableDef) (t : DrawnTable) → Knows k tables → Knows (k + 1) (tables ++ table_def (k + 1) t ∷ [])
knows_more k tables t knows = record {
  names_are =
      map-append (λ (d : TableDef). d.name) tables (table_def (k + 1) t ∷ []) ∙ ap (λ l. l ++ table_name (k + 1) ∷ []) knows.names_are
      ∙ sym (map-range_with_len_more table_name 1 k (k + 1) (omega arith));
  count = longer tables (table_def (k + 1) t) k knows.count;
} where
  longer : (tables : List TableDef) (d : TableDef) (k : ℕ) → length tables ≡ k → length (tables ++ d ∷ []) ≡ k + 1
  longer [] d k is = omega arith
  longer (x ∷ tables) d zero is = absurd (omega arith)
  longer (x ∷ tables) d (suc k) is = let rest = longer tables d k (omega arith) in omega arith

index_means : (k : ℕ) (tables : List TableDef) (t : DrawnTable) (indexes : List IndexDef) → k ≤ 8 → Knows k tables
    → with_statement (so_far (tables ++ table_def (k + 1) t ∷ []) indexes) (Index (index_part (k + 1)))
    ≡ Some (so_far (tables ++ table_def (k + 1) t ∷ []) (indexes ++ index_def (k + 1) ∷ []))
index_means k tables t indexes few knows =
    let all = tables ++ table_def (k + 1) t ∷ [] in
    let at : place_of (table_name (k + 1)) (names all) ≡ Some k =
    ap (place_of (table_name (k + 1))) (map-append (λ (d : TableDef). d.name) tables (table_def (k + 1) t ∷ []) ∙ ap (λ l. l ++ table_name (k + 1) ∷ []) knows.names_are)
    ∙ own_place k few in
    let last : k ≡ (k + 1) - 1 = omega arith in
    bound (place_of (table_name (k + 1)) (names all)) _ k _ at (
    bound (slice_get all k) _ (table_def (k + 1) t) _ (get_last tables (table_def (k + 1) t) k knows.count)
    (ap (λ (place : ℕ). Some (so_far all (indexes ++ record { name = index_name (k + 1); table = place; columns = 1 ∷ 0 ∷ []; pages = 1 } ∷ []))) last)
    )

index_step : (indexed : Bool) (c : Catalogue) (i : IndexPart) (d : IndexDef) (later : List CatalogueStatement)
    → with_statement c (Index i) ≡ Some (record c { indexes = c.indexes ++ d ∷ [] })
    → with_statements c ((if indexed then Index i ∷ [] else []) ++ later)
    ≡ with_statements (record c { indexes = c.indexes ++ (if indexed then d ∷ [] else []) }) later
index_step true c i d later is = ap (λ o. option_and_then (λ after. with_statements after later) o) is
index_step false c i d later is = ap (λ (l : List IndexDef). with_statements (record c { indexes = l }) later) (sym (append-nil c.indexes))

all_mean : (k : ℕ) (tables : List TableDef) (indexes : List IndexDef) (later : List DrawnTable) → k + length later ≤ 8 → Knows k tables
    → with_statements (so_far tables indexes) (statements_from (k + 1) later)
    ≡ Some (so_far (tables ++ table_defs (k + 1) later) (indexes ++ index_defs (k + 1) later))
all_mean k tables indexes [] few knows =
    ap (λ l. Some (so_far l indexes)) (sym (append-nil tables)) ∙ ap (λ l. Some (so_far (tables ++ []) l)) (sym (append-nil indexes))
all_mean k tables indexes (t ∷ later) few knows =
    let d = table_def (k + 1) t in
    let own = if t.is_indexed then index_def (k + 1) ∷ [] else [] in
    let rest = table_defs (k + 1 + 1) later in
    let rest_indexes = index_defs (k + 1 + 1) later in
    index_step t.is_indexed (so_far (tables ++ d ∷ []) indexes) (index_part (k + 1)) (index_def (k + 1)) (statements_from (k + 1 + 1) later)
    (index_means k tables t indexes (omega arith) knows)
    ∙ all_mean (k + 1) (tables ++ d ∷ []) (indexes ++ own) later (omega arith) (knows_more k tables t knows)
    ∙ ap (λ l. Some (so_far l ((indexes ++ own) ++ rest_indexes))) (append_assoc tables (d ∷ []) rest)
    ∙ ap (λ l. Some (so_far (tables ++ d ∷ rest) l)) (append_assoc indexes own rest_indexes)

pub spells_catalogue : (seed size : ℕ) → IsSize size → SpellsCatalogue (catalogue_text (drawn_tables seed size)) (catalogue_tree (drawn_tables seed size))
unfolding catalogue_of
spells_catalogue seed size is =
    let tables = drawn_tables seed size in
    let says = catalogue_says seed size is in
    record {
      statements = catalogue_statements tables;
      are = says.are;
      columns = says.columns;
      means = all_mean 0 [] [] tables (omega (arith, tables_count seed size)) (record { names_are = refl; count = refl });
    }

-- ---- the tree is well formed

and_both : (a b : Bool) → a ≡ true → b ≡ true → (a && b) ≡ true
and_both a b p q = ap (λ c. c && b) p ∙ q

small_number : (n : ℕ) → n ≤ 19 → is_number n ≡ true
small_number n few = le-leb n top (omega arith)

formed_table : (number : ℕ) (t : DrawnTable) (rows_before : ℕ) → number ≤ 8 → rows_before ≤ 19 → IsLinked rows_before t → WellFormedTable 1 (table_def number t)
formed_table number t rows_before few few_rows linked =
    let rows = small_number t.rows linked.rows.1 in
    let pages = small_number t.pages (omega arith) in
    let before = small_number t.rows_before (omega arith) in
    let len = length-file number few in
    record {
      name = table_is_name number few;
      site = omega arith;
      numbers = and_both (is_number t.rows) (is_number t.pages) rows pages;
      file = file_is_text number few;
      file_length = (omega arith, omega arith);
      some_columns = (omega arith, omega arith);
      columns = and_both (is_number t.rows) (is_number t.rows_before && true) rows (and_both (is_number t.rows_before) true before refl);
      columns_differ = refl;
    }

formed_tables : (number : ℕ) (tables : List DrawnTable) (rows_before : ℕ) → number + length tables ≤ 9 → rows_before ≤ 19 → AreLinked rows_before tables
    → Each (WellFormedTable 1) (table_defs number tables)
formed_tables number [] rows_before few few_rows linked = none
formed_tables number (t ∷ later) rows_before few few_rows linked =
    more (table_def number t) (table_defs (number + 1) later) (formed_table number t rows_before (omega arith) few_rows linked.0)
    (formed_tables (number + 1) later t.rows (omega arith) linked.0.rows.1 linked.1)

two_columns : (number : ℕ) (tables : List DrawnTable) (place : ℕ) → place < length tables → columns_in (table_defs number tables) place ≡ 2
two_columns number [] place below = absurd (omega arith)
two_columns number (t ∷ later) zero below = refl
two_columns number (t ∷ later) (suc place) below = two_columns (number + 1) later place (omega arith)

length-defs : (number : ℕ) (tables : List DrawnTable) → length (table_defs number tables) ≡ length tables
length-defs number [] = refl
length-defs number (t ∷ later) = ap suc (length-defs (number + 1) later)

each_both : {A : Type 0} (P : A → Type 0) (xs ys : List A) → Each P xs → Each P ys → Each P (xs ++ ys)
each_both P xs ys none second = second
each_both P xs ys (more x rest holds first) second = more x (rest ++ ys) holds (each_both P rest ys first second)

formed_index : (all : List DrawnTable) (number : ℕ) → 1 ≤ number → number ≤ length all → length all ≤ 8 → WellFormedIndex (table_defs 1 all) (index_def number)
formed_index all number some within few =
    let two = two_columns 1 all (number - 1) (omega arith) in
    record {
      name = index_is_name number (omega arith);
      table = omega (arith, length-defs 1 all);
      pages = refl;
      some_columns = (omega arith, omega arith);
      columns = rw two refl;
      columns_differ = refl;
    }

formed_indexes : (all : List DrawnTable) (number : ℕ) (tables : List DrawnTable) → 1 ≤ number → number + length tables ≡ length all + 1 → length all ≤ 8
    → Each (WellFormedIndex (table_defs 1 all)) (index_defs number tables)
formed_indexes all number [] some within few = none
formed_indexes all number (t ∷ later) some within few =
    each_both (WellFormedIndex (table_defs 1 all)) (if t.is_indexed then index_def number ∷ [] else []) (index_defs (number + 1) later)
    (own t.is_indexed) (formed_indexes all (number + 1) later (omega arith) (omega arith) few) where
      own : (indexed : Bool) → Each (WellFormedIndex (table_defs 1 all)) (if indexed then index_def number ∷ [] else [])
      own true = more (index_def number) [] (formed_index all number some (omega arith) few) none
      own false = none

names_of_defs : (number : ℕ) (tables : List DrawnTable) → names (table_defs number tables) ≡ map table_name (range_with_len number (length tables))
names_of_defs number [] = refl
names_of_defs number (t ∷ later) = ap (λ l. table_name number ∷ l) (names_of_defs (number + 1) later)

abbrev index_names : List IndexDef → List (List ℕ)
index_names indexes = map (λ i. i.name) indexes

-- the indexes from a table on: its own, if it has one, and those of later tables
abbrev with_own : Bool → ℕ → List IndexDef → List IndexDef
with_own indexed number later = (if indexed then index_def number ∷ [] else []) ++ later

abbrev IsApart : ℕ → List IndexDef → Type 0
IsApart m indexes = list_all (λ y. not (same_numbers (index_name m) y)) (index_names indexes) ≡ true

own_apart : (indexed : Bool) (m number : ℕ) (later : List IndexDef) → m < number → number ≤ 8 → IsApart m later → IsApart m (with_own indexed number later)
own_apart true m number later below few rest = and_both _ _ (other_index m number below few) rest
own_apart false m number later below few rest = rest

-- the index of a table has another name than those of later tables
apart_later : (m number : ℕ) (tables : List DrawnTable) → m < number → number + length tables ≤ 9 → IsApart m (index_defs number tables)
apart_later m number [] below few = refl
apart_later m number (t ∷ later) below few =
    own_apart t.is_indexed m number (index_defs (number + 1) later) below (omega arith) (apart_later m (number + 1) later (omega arith) (omega arith))

abbrev AllDiffer : List IndexDef → Type 0
AllDiffer indexes = differ same_numbers (index_names indexes) ≡ true

own_differs : (indexed : Bool) (number : ℕ) (later : List IndexDef) → IsApart number later → AllDiffer later → AllDiffer (with_own indexed number later)
own_differs true number later apart rest = and_both _ _ apart rest
own_differs false number later apart rest = rest

indexes_differ : (number : ℕ) (tables : List DrawnTable) → number + length tables ≤ 9 → AllDiffer (index_defs number tables)
indexes_differ number [] few = refl
indexes_differ number (t ∷ later) few =
    own_differs t.is_indexed number (index_defs (number + 1) later) (apart_later number (number + 1) later (omega arith) (omega arith)) (indexes_differ (number + 1) later (omega arith))

own_counts : (indexed : Bool) (number count : ℕ) (later : List IndexDef) → length later ≤ count → length (with_own indexed number later) ≤ count + 1
own_counts true number count later few = omega arith
own_counts false number count later few = omega arith

few_defs : (number : ℕ) (tables : List DrawnTable) → length (index_defs number tables) ≤ length tables
few_defs number [] = omega arith
few_defs number (t ∷ later) = let own = own_counts t.is_indexed number (length later) (index_defs (number + 1) later) (few_defs (number + 1) later) in omega (arith, own)

pub formed_catalogue : (seed size : ℕ) → IsSize size → WellFormedCatalogue (catalogue_tree (drawn_tables seed size))
formed_catalogue seed size is =
    let tables = drawn_tables seed size in
    let count = tables_count seed size in
    let few : length tables ≤ 8 = omega arith in
    record {
      few_sites = omega arith;
      few_tables = omega (arith, length-defs 1 tables);
      few_indexes = omega (arith, few_defs 1 tables);
      sites = refl;
      tables = formed_tables 1 tables 1 (omega arith) (omega arith) (tables_linked seed size);
      indexes = formed_indexes tables 1 tables (omega arith) (omega arith) few;
      sites_differ = refl;
      tables_differ = ap (differ same_numbers) (names_of_defs 1 tables) ∙ tables_differ (length tables) few;
      indexes_differ = indexes_differ 1 tables (omega arith);
    }
