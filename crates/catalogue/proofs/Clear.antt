-- The statements of a well-formed catalogue name what is defined, define each name once, and keep the limits.
use Rattle.std.proofs.Common.{◌≡◌, inl, inr, ℕ, ◌+◌, ◌≤◌, Bool, true, false, not, nat_le, List, [], ◌∷◌, ◌++◌, map, length, Some, refl, sym, ap, ◌∙◌, subst, arith, append_assoc, leb-true}
use Rattle.std.specs.Prelude.{slice_get, ◌||◌, ◌&&◌}
use Rattle.std.specs.List.{list_all, list_any}
use Rattle.std.specs.Option.{option_map}
use Rattle.std.proofs.lemmas.List.{map-append, length-append, length-map}
use Rattle.std.proofs.lemmas.Bool.{and_parts, and_from, or_from, or_cases, not_from_true, both_ways, le-ltb}
use Rattle.std.proofs.lemmas.List.Folds.{list_all-append}
use Rattle.std.proofs.lemmas.Option.{option_and_then_some, slice_get-map}
use Rattle.star_model.specs.Numbers.{top}
use Rattle.star_model.specs.Vectors.{same_numbers}
use Rattle.star_model.specs.WellFormed.{WellFormedCatalogue, WellFormedTable, WellFormedIndex, Each, differ, is_name, is_word, is_number, is_site, is_column}
use Rattle.star_model.specs.declared.catalogue.Catalogue.{Catalogue}
use Rattle.star_model.specs.declared.catalogue.SiteDef.{SiteDef}
use Rattle.star_model.specs.declared.catalogue.TableDef.{TableDef}
use Rattle.star_model.specs.declared.catalogue.ColumnDef.{ColumnDef}
use Rattle.star_model.specs.declared.catalogue.IndexDef.{IndexDef}
use Rattle.star_model.specs.declared.faults.LimitKind.{LimitKind}
use Rattle.star_model.specs.declared.faults.LimitKind.TheVariants as limit
use Rattle.star_model.specs.Names.{place_of, is_among}
use Rattle.spelling.specs.Firsts.{NoneFrom}
use Rattle.catalogue.specs.Catalogues.{CatalogueStatement, Site, Table, Index, TablePart, IndexPart, nothing_defined, site_names, table_names, column_names, table_from, with_statement, with_statements, catalogue_of}
use Rattle.catalogue.specs.Defined.{sites_in, tables_in, names_of, columns_in, names_unknown, is_defined, has_column_twice, NamesUnknown, DefinesTwice}
use Rattle.catalogue.specs.Beyond.{Beyond, IsBeyond}
use Rattle.catalogue.specs.LimitTests.{is_great, is_great_column, has_great_number, is_long, is_long_column, has_long_name}
use Rattle.catalogue.specs.Judged.{AreClear}
use Rattle.catalogue.proofs.LexemeLimits.{great_to, long_to}
use Rattle.catalogue.proofs.Places.{among_found, found_place}
use Rattle.catalogue.proofs.PlaceLaws.{places_of, each_known, as_many, names_differ, new_name, each_within, all_within, each_placed, place_before}
use Rattle.catalogue.proofs.Adding.{index_names, made_index, table_added, index_added, Extends, later_extend, Follows, follows_site, follows_table, follows_index, follows_nothing}
use Rattle.star_model.proofs.Laws.{same_are}

-- ---- names and numbers of well-formed catalogues

fine : (n : ℕ) → is_number n ≡ true → is_great n ≡ false
fine n number = le-ltb top n (leb-true n top number)

short : (name : List ℕ) → is_name name ≡ true → is_long name ≡ false
short name named = le-ltb 64 (length name) (leb-true (length name) 64 (and_parts (is_word name) (nat_le (length name) 64) named).1)

site_parts : (s : SiteDef) → is_site s ≡ true → (is_name s.name ≡ true) × (is_number s.cpu ≡ true) × (is_number s.net ≡ true)
site_parts s is =
    let first = and_parts (is_name s.name && is_number s.cpu) (is_number s.net) is in
    let both = and_parts (is_name s.name) (is_number s.cpu) first.0 in
    (both.0, both.1, first.1)

column_parts : (c : ColumnDef) → is_column c ≡ true → (is_name c.name ≡ true) × (is_number c.width ≡ true) × (is_number c.distinct ≡ true)
column_parts c is =
    let first = and_parts (is_name c.name && is_number c.width) (is_number c.distinct) is in
    let both = and_parts (is_name c.name) (is_number c.width) first.0 in
    (both.0, both.1, first.1)

fine_columns : (columns : List ColumnDef) → list_all is_column columns ≡ true → list_any is_great_column columns ≡ false
fine_columns [] all = refl
fine_columns (c ∷ columns) all =
    let parts = and_parts (is_column c) (list_all is_column columns) all in
    let numbers = column_parts c parts.0 in
    or_from (is_great_column c) (list_any is_great_column columns) (or_from (is_great c.width) (is_great c.distinct) (fine c.width numbers.1) (fine c.distinct numbers.2)) (fine_columns columns parts.1)

short_columns : (columns : List ColumnDef) → list_all is_column columns ≡ true → list_any is_long_column columns ≡ false
short_columns [] all = refl
short_columns (c ∷ columns) all =
    let parts = and_parts (is_column c) (list_all is_column columns) all in
    or_from (is_long_column c) (list_any is_long_column columns) (short c.name (column_parts c parts.0).0) (short_columns columns parts.1)

-- a name of one of these is well formed
named_among : {A : Type 0} (name_of : A → List ℕ) (test : A → Bool) → ((x : A) → test x ≡ true → is_name (name_of x) ≡ true) → (xs : List A) (name : List ℕ)
    → list_all test xs ≡ true → is_among (map name_of xs) name ≡ true → is_name name ≡ true
named_among name_of test named [] name all among = absurd cc
named_among name_of test named (x ∷ xs) name all among =
    let parts = and_parts (test x) (list_all test xs) all in
    elim (or_cases (same_numbers name (name_of x)) (is_among (map name_of xs) name) among) [
      | inl same ↦ ap is_name (same_are name (name_of x) same) ∙ named x parts.0
      | inr later ↦ named_among name_of test named xs name parts.1 later
    ]

all_before : {A : Type 0} (test : A → Bool) (xs ys : List A) → list_all test (xs ++ ys) ≡ true → list_all test xs ≡ true
all_before test xs ys all = (and_parts (list_all test xs) (list_all test ys) (sym (list_all-append test xs ys) ∙ all)).0

all_so : {A : Type 0} (p q : A → Bool) → ((x : A) → p x ≡ true → q x ≡ true) → (xs : List A) → list_all p xs ≡ true → list_all q xs ≡ true
all_so p q so [] all = refl
all_so p q so (x ∷ xs) all = let parts = and_parts (p x) (list_all p xs) all in and_from (q x) (list_all q xs) (so x parts.0) (all_so p q so xs parts.1)

none_so : {A : Type 0} (p q : A → Bool) → ((x : A) → p x ≡ true → q x ≡ false) → (xs : List A) → list_all p xs ≡ true → list_any q xs ≡ false
none_so p q so [] all = refl
none_so p q so (x ∷ xs) all = let parts = and_parts (p x) (list_all p xs) all in or_from (q x) (list_any q xs) (so x parts.0) (none_so p q so xs parts.1)

longer : {A : Type 0} (xs ys zs : List A) (x : A) → xs ≡ ys ++ x ∷ zs → length ys + 1 ≤ length xs
longer {A = A} xs ys zs x is = omega (arith, ap (λ (l : List A). length l) is, length-append ys (x ∷ zs))

-- ---- a statement of a well-formed catalogue, behind those before it

record IsClear (before : List CatalogueStatement) (s : CatalogueStatement) : Type 0 where
  known : names_unknown before s ≡ false
  new : is_defined before s ≡ false
  once : has_column_twice s ≡ false
  within : (what : LimitKind) → Beyond before s what → ⊥

-- what is known of it: the catalogue so far, and the whole one
module _ (d c : Catalogue) (before : List CatalogueStatement) (so_far : Follows d before) (formed : WellFormedCatalogue c) where
  site_clear : (s : SiteDef) → Extends (record d { sites = d.sites ++ s ∷ [] }) c → IsClear before (Site s)
  site_clear s extends = record { known = refl; new = ap (λ l. is_among l s.name) so_far.sites ∙ new_name (site_names d) s.name (map (λ (x : SiteDef). x.name) extends.sites) differs; once = refl; within = within }
    where
      are : c.sites ≡ d.sites ++ s ∷ extends.sites
      are = ap (λ (m : Catalogue). m.sites) extends.are ∙ append_assoc d.sites (s ∷ []) extends.sites

      differs : differ same_numbers (site_names d ++ s.name ∷ map (λ (x : SiteDef). x.name) extends.sites) ≡ true
      differs = ap (differ same_numbers) (sym (ap (map (λ (x : SiteDef). x.name)) are ∙ map-append (λ (x : SiteDef). x.name) d.sites (s ∷ extends.sites))) ∙ formed.sites_differ

      parts : (is_name s.name ≡ true) × (is_number s.cpu ≡ true) × (is_number s.net ≡ true)
      parts = site_parts s (all_within is_site d.sites s extends.sites (ap (list_all is_site) (sym are) ∙ formed.sites))

      within : (what : LimitKind) → Beyond before (Site s) what → ⊥
      within limit.Number b = both_ways (has_great_number (Site s)) (or_from (is_great s.cpu) (is_great s.net) (fine s.cpu parts.1) (fine s.net parts.2)) (great_to (Site s) b)
      within limit.Name b = both_ways (has_long_name (Site s)) (short s.name parts.0) (long_to (Site s) b)
      within limit.Sites b =
          omega (arith, b, formed.few_sites, longer c.sites d.sites extends.sites s are, ap (λ (l : List (List ℕ)). length l) so_far.sites, length-map d.sites (λ (x : SiteDef). x.name))
      within _ b = b

  table_clear : (t : TablePart) (site : ℕ) → place_of t.site (site_names d) ≡ Some site → Extends (record d { tables = d.tables ++ table_from site t ∷ [] }) c → IsClear before (Table t)
  table_clear t site found extends = record {
    known = not_from_true (is_among (sites_in before) t.site) (ap (λ l. is_among l t.site) so_far.sites ∙ among_found t.site (site_names d) site found);
    new = ap (λ l. is_among l t.name) so_far.tables ∙ new_name (table_names d) t.name (map (λ (x : TableDef). x.name) extends.tables) differs;
    once = not_from_true (differ same_numbers (names_of t.columns)) well.columns_differ;
    within = within;
  }
    where
      are : c.tables ≡ d.tables ++ table_from site t ∷ extends.tables
      are = ap (λ (m : Catalogue). m.tables) extends.are ∙ append_assoc d.tables (table_from site t ∷ []) extends.tables

      differs : differ same_numbers (table_names d ++ t.name ∷ map (λ (x : TableDef). x.name) extends.tables) ≡ true
      differs =
          ap (differ same_numbers) (sym (ap (map (λ (x : TableDef). x.name)) are ∙ map-append (λ (x : TableDef). x.name) d.tables (table_from site t ∷ extends.tables))) ∙ formed.tables_differ

      well : WellFormedTable (length c.sites) (table_from site t)
      well = each_within d.tables (table_from site t) extends.tables (subst (Each (WellFormedTable (length c.sites))) are formed.tables)

      site_named : is_name t.site ≡ true
      site_named =
          named_among (λ (x : SiteDef). x.name) is_site (λ x is. (site_parts x is).0) d.sites t.site
          (all_before is_site d.sites extends.sites (ap (list_all is_site) (sym (ap (λ (m : Catalogue). m.sites) extends.are)) ∙ formed.sites)) (among_found t.site (site_names d) site found)

      fine_table : has_great_number (Table t) ≡ false
      fine_table =
          let numbers = and_parts (is_number t.rows) (is_number t.pages) well.numbers in
          or_from (is_great t.rows || is_great t.pages) (list_any is_great_column t.columns) (or_from (is_great t.rows) (is_great t.pages) (fine t.rows numbers.0) (fine t.pages numbers.1)) (fine_columns t.columns well.columns)

      short_table : has_long_name (Table t) ≡ false
      short_table =
          or_from (is_long t.name || is_long t.site) (list_any is_long_column t.columns) (or_from (is_long t.name) (is_long t.site) (short t.name well.name) (short t.site site_named)) (short_columns t.columns well.columns)

      within : (what : LimitKind) → Beyond before (Table t) what → ⊥
      within limit.Number b = both_ways (has_great_number (Table t)) fine_table (great_to (Table t) b)
      within limit.Name b = both_ways (has_long_name (Table t)) short_table (long_to (Table t) b)
      within limit.File b = b (record { some = well.file_length.0; few = well.file_length.1; utf8 = well.file })
      within limit.Tables b =
          omega (
            arith,
            b,
            formed.few_tables,
            longer c.tables d.tables extends.tables (table_from site t) are,
            ap (λ (l : List (List ℕ)). length l) so_far.tables,
            length-map d.tables (λ (x : TableDef). x.name),
          )
      within limit.Columns b = omega (arith, b, well.some_columns.1)
      within _ b = b

  -- an index on this table, whose columns are at these places
  index_clear : (i : IndexPart) (place : ℕ) (t : TableDef) (columns : List ℕ) → place_of i.table (table_names d) ≡ Some place → slice_get d.tables place ≡ Some t
      → places_of (column_names t) i.columns ≡ Some columns
      → Extends (record d { indexes = d.indexes ++ made_index i place columns ∷ [] }) c → IsClear before (Index i)
  index_clear i place t columns found there columns_found extends = record {
    known = or_from (not (is_among (tables_in before) i.table)) (not (list_all (is_among (columns_in i.table before)) i.columns))
        (not_from_true (is_among (tables_in before) i.table) (ap (λ l. is_among l i.table) so_far.tables ∙ among_found i.table (table_names d) place found))
        (not_from_true (list_all (is_among (columns_in i.table before)) i.columns) columns_known);
    new = ap (λ l. is_among l i.name) so_far.indexes ∙ new_name (index_names d) i.name (map (λ (x : IndexDef). x.name) extends.indexes) differs;
    once = not_from_true (differ same_numbers i.columns) (names_differ (column_names t) i.columns columns columns_found well.columns_differ);
    within = within;
  }
    where
      are : c.indexes ≡ d.indexes ++ (made_index i place columns) ∷ extends.indexes
      are = ap (λ (m : Catalogue). m.indexes) extends.are ∙ append_assoc d.indexes ((made_index i place columns) ∷ []) extends.indexes

      differs : differ same_numbers (index_names d ++ i.name ∷ map (λ (x : IndexDef). x.name) extends.indexes) ≡ true
      differs =
          ap (differ same_numbers) (sym (ap (map (λ (x : IndexDef). x.name)) are ∙ map-append (λ (x : IndexDef). x.name) d.indexes ((made_index i place columns) ∷ extends.indexes))) ∙ formed.indexes_differ

      well : WellFormedIndex c.tables (made_index i place columns)
      well = each_within d.indexes (made_index i place columns) extends.indexes (subst (Each (WellFormedIndex c.tables)) are formed.indexes)

      table_well : WellFormedTable (length c.sites) t
      table_well = each_placed c.tables place t formed.tables (ap (λ (m : Catalogue). slice_get m.tables place) extends.are ∙ place_before d.tables extends.tables place t there)

      table_named : t.name ≡ i.table
      table_named =
          let same : Some t.name ≡ Some i.table =
          sym (slice_get-map (λ (x : TableDef). x.name) d.tables place ∙ ap (option_map (λ (x : TableDef). x.name)) there) ∙ (found_place i.table (table_names d) place found).there in
          cc

      all_among : list_all (is_among (column_names t)) i.columns ≡ true
      all_among = each_known (column_names t) i.columns columns columns_found

      columns_known : list_all (is_among (columns_in i.table before)) i.columns ≡ true
      columns_known =
          all_so (is_among (column_names t)) (is_among (columns_in i.table before))
          (λ name known. ap (λ n. is_among (columns_in n before) name) (sym table_named) ∙ so_far.columns place t there name known) i.columns all_among

      short_index : has_long_name (Index i) ≡ false
      short_index =
          or_from (is_long i.name || is_long i.table) (list_any is_long i.columns)
          (or_from (is_long i.name) (is_long i.table) (short i.name well.name) (ap is_long (sym table_named) ∙ short t.name table_well.name))
          (none_so (is_among (column_names t)) is_long
          (λ name known. short name (named_among (λ (x : ColumnDef). x.name) is_column (λ x is. (column_parts x is).0) t.columns name table_well.columns known)) i.columns all_among)

      within : (what : LimitKind) → Beyond before (Index i) what → ⊥
      within limit.Number b = both_ways (has_great_number (Index i)) (fine i.pages well.pages) (great_to (Index i) b)
      within limit.Name b = both_ways (has_long_name (Index i)) short_index (long_to (Index i) b)
      within limit.Indexes b =
          omega (
            arith,
            b,
            formed.few_indexes,
            longer c.indexes d.indexes extends.indexes (made_index i place columns) are,
            ap (λ (l : List (List ℕ)). length l) so_far.indexes,
            length-map d.indexes (λ (x : IndexDef). x.name),
          )
      within limit.IndexColumns b = omega (arith, b, well.some_columns.1, as_many (column_names t) i.columns columns columns_found)
      within _ b = b

-- ---- all statements

record AreClearFrom (before later : List CatalogueStatement) : Type 0 where
  known : NoneFrom NamesUnknown before later
  once : NoneFrom DefinesTwice before later
  within : NoneFrom IsBeyond before later

put_first : (before later : List CatalogueStatement) (s : CatalogueStatement) → IsClear before s → AreClearFrom (before ++ s ∷ []) later → AreClearFrom before (s ∷ later)
put_first before later s here others = record {
  known = (both_ways (names_unknown before s) here.known, others.known);
  once = (both_ways (is_defined before s || has_column_twice s) (or_from (is_defined before s) (has_column_twice s) here.new here.once), others.once);
  within = (λ beyond. here.within beyond.0 beyond.1, others.within);
}

clear_from : (later before : List CatalogueStatement) (d c : Catalogue) → Follows d before → WellFormedCatalogue c → with_statements d later ≡ Some c → AreClearFrom before later
clear_from [] before d c so_far formed defined = record { known = tt; once = tt; within = tt }
clear_from (Site s ∷ later) before d c so_far formed defined =
    let after = record d { sites = d.sites ++ s ∷ [] } in
    put_first before later (Site s) (site_clear d c before so_far formed s (later_extend later after c defined))
    (clear_from later (before ++ Site s ∷ []) after c (follows_site d before s so_far) formed defined)
clear_from (Table t ∷ later) before d c so_far formed defined =
    option_and_then_some (λ after. with_statements after later) (with_statement d (Table t)) c defined (λ made first others.
    let added = table_added d t made first in
    let after = record d { tables = d.tables ++ table_from added.site t ∷ [] } in
    let rest : with_statements after later ≡ Some c = ap (λ m. with_statements m later) (sym added.is) ∙ others in
    put_first before later (Table t) (table_clear d c before so_far formed t added.site added.found (later_extend later after c rest))
    (clear_from later (before ++ Table t ∷ []) after c (follows_table d before t added.site so_far) formed rest))
clear_from (Index i ∷ later) before d c so_far formed defined =
    option_and_then_some (λ after. with_statements after later) (with_statement d (Index i)) c defined (λ made first others.
    let added = index_added d i made first in
    let x = made_index i added.place added.columns in
    let after = record d { indexes = d.indexes ++ x ∷ [] } in
    let rest : with_statements after later ≡ Some c = ap (λ m. with_statements m later) (sym added.is) ∙ others in
    put_first before later (Index i)
    (index_clear d c before so_far formed i added.place added.table added.columns added.found added.there added.columns_found (later_extend later after c rest))
    (clear_from later (before ++ Index i ∷ []) after c (follows_index d before i x refl so_far) formed rest))

pub clear_statements : (ss : List CatalogueStatement) (c : Catalogue) → catalogue_of ss ≡ Some c → WellFormedCatalogue c → AreClear ss
unfolding catalogue_of
clear_statements ss c means formed =
    let clear = clear_from ss [] nothing_defined c follows_nothing formed means in
    record { known = clear.known; once = clear.once; within = clear.within }
