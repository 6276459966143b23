-- Statements that name only what is defined, and define nothing twice, mean a catalogue.
use Rattle.std.proofs.Common.{◌≡◌, ◌<◌, ℕ, zero, suc, Bool, true, false, not, List, [], ◌∷◌, ◌++◌, map, length, Some, inl, inr, refl, sym, ap, ◌∙◌, arith, append-nil}
use Rattle.std.specs.Prelude.{◌||◌, slice_get, if◌then◌else◌}
use Rattle.std.specs.List.{list_all}
use Rattle.std.specs.Cmp.Lexicographic.{same_text}
use Rattle.std.proofs.lemmas.List.{map-append, length-map}
use Rattle.std.proofs.lemmas.Bool.{both_ways, false_from_ne_true, or_parts, or_cases, not-false}
use Rattle.star_model.specs.Vectors.{same_numbers}
use Rattle.star_model.specs.WellFormed.{differ}
use Rattle.star_model.specs.declared.catalogue.Catalogue.{Catalogue}
use Rattle.star_model.specs.declared.catalogue.SiteDef.{SiteDef}
use Rattle.star_model.specs.declared.catalogue.TableDef.{TableDef}
use Rattle.star_model.specs.declared.catalogue.IndexDef.{IndexDef}
use Rattle.star_model.specs.Names.{is_among, place_of}
use Rattle.spelling.specs.Firsts.{NoneFrom, NoneHas}
use Rattle.catalogue.specs.Catalogues.{CatalogueStatement, Site, Table, Index, TablePart, IndexPart, site_names, table_names, column_names, table_from, with_statement, with_statements, nothing_defined, catalogue_of}
use Rattle.catalogue.specs.Defined.{sites_in, tables_in, indexes_in, names_of, columns_in, names_unknown, is_defined, has_column_twice, NamesUnknown, DefinesTwice}
use Rattle.catalogue.proofs.DefinedLaws.{sites_in-append, tables_in-append, indexes_in-append, columns_in-append, columns_of_table, among-append}
use Rattle.catalogue.proofs.Places.{Stands, StandAll, placed, found_place, among_found, still_placed, placed_new, all_stand, all_of_places}

abbrev pub index_names : Catalogue → List (List ℕ)
index_names c = map (λ (i : IndexDef). i.name) c.indexes

-- the catalogue has the names that these statements define
pub record Means (c : Catalogue) (earlier : List CatalogueStatement) : Type 0 where
  pub sites : site_names c ≡ sites_in earlier
  pub tables : table_names c ≡ tables_in earlier
  pub indexes : index_names c ≡ indexes_in earlier
  pub columns : (table : List ℕ) (place : ℕ) (t : TableDef) → place_of table (table_names c) ≡ Some place → slice_get c.tables place ≡ Some t → column_names t ≡ columns_in table earlier

pub means_nothing : Means nothing_defined []
means_nothing = record { sites = refl; tables = refl; indexes = refl; columns = λ table place t is at. absurd cc }

-- ---- a site

abbrev pub with_site : Catalogue → SiteDef → Catalogue
with_site c s = record c { sites = c.sites ++ s ∷ [] }

pub means_site : (c : Catalogue) (earlier : List CatalogueStatement) (s : SiteDef) → Means c earlier → Means (with_site c s) (earlier ++ Site s ∷ [])
means_site c earlier s m =
    let x : List CatalogueStatement = Site s ∷ [] in
    record {
      sites = map-append (λ (d : SiteDef). d.name) c.sites (s ∷ []) ∙ ap (λ l. l ++ s.name ∷ []) m.sites ∙ sym (sites_in-append earlier x);
      tables = m.tables ∙ sym (tables_in-append earlier x ∙ append-nil (tables_in earlier));
      indexes = m.indexes ∙ sym (indexes_in-append earlier x ∙ append-nil (indexes_in earlier));
      columns = λ table place t is at. m.columns table place t is at ∙ sym (columns_in-append table earlier x ∙ append-nil (columns_in table earlier));
    }

-- ---- a table

abbrev pub with_table : Catalogue → ℕ → TablePart → Catalogue
with_table c site t = record c { tables = c.tables ++ table_from site t ∷ [] }

no_columns : (table : List ℕ) (earlier : List CatalogueStatement) → is_among (tables_in earlier) table ≡ false → columns_in table earlier ≡ []
no_columns table [] none = refl
no_columns table (Site s ∷ earlier) none = no_columns table earlier none
no_columns table (Table t ∷ earlier) none =
    let p = or_parts (same_numbers table t.name) (is_among (tables_in earlier) table) none in
    rw p.0 (no_columns table earlier p.1)
no_columns table (Index i ∷ earlier) none = no_columns table earlier none

pub at_front : {A : Type 0} (xs ys : List A) (n : ℕ) → n < length xs → slice_get (xs ++ ys) n ≡ slice_get xs n
at_front [] ys n less = absurd (omega arith)
at_front (x ∷ xs) ys zero less = refl
at_front (x ∷ xs) ys (suc n) less = at_front xs ys n (omega arith)

at_end : {A : Type 0} (xs : List A) (y : A) → slice_get (xs ++ y ∷ []) (length xs) ≡ Some y
at_end [] y = refl
at_end (x ∷ xs) y = at_end xs y

some_table : (t u : TableDef) → Some t ≡ Some u → t ≡ u
some_table t u e = cc

some_place : (p q : ℕ) → Some p ≡ Some q → p ≡ q
some_place p q e = cc

-- what one table more has of the columns of a table's name
module _ (c : Catalogue) (earlier : List CatalogueStatement) (m : Means c earlier) (site : ℕ) (t : TablePart) (new : is_among (tables_in earlier) t.name ≡ false) where
  names_after : table_names (with_table c site t) ≡ table_names c ++ t.name ∷ []
  names_after = map-append (λ (d : TableDef). d.name) c.tables (table_from site t ∷ [])

  count : length (table_names c) ≡ length c.tables
  count = length-map c.tables (λ (d : TableDef). d.name)

  of_this : (table : List ℕ) (place : ℕ) (d : TableDef) → same_numbers table t.name ≡ true → place_of table (table_names c ++ t.name ∷ []) ≡ Some place
      → slice_get (c.tables ++ table_from site t ∷ []) place ≡ Some d → column_names d ≡ columns_in table (earlier ++ Table t ∷ [])
  of_this table place d same is at =
      let one : table ≡ t.name = same_text table t.name (sym same) in
      let last : place ≡ length c.tables =
      some_place place (length c.tables)
      (sym is ∙ ap (λ (n : List ℕ). place_of n (table_names c ++ t.name ∷ [])) one ∙ placed_new t.name (table_names c) (rw m.tables new) ∙ ap (λ n. Some n) count) in
      let own : d ≡ table_from site t = some_table d (table_from site t) (sym at ∙ ap (slice_get (c.tables ++ table_from site t ∷ [])) last ∙ at_end c.tables (table_from site t)) in
      ap column_names own
      ∙ sym
      (columns_in-append table earlier (Table t ∷ [])
      ∙ ap (λ (l : List (List ℕ)). l ++ columns_in table (Table t ∷ [])) (no_columns table earlier (rw one new))
      ∙ columns_of_table table t ∙ ap (λ b. if b then names_of t.columns else []) same)

  of_another : (table : List ℕ) (place : ℕ) (d : TableDef) → same_numbers table t.name ≡ false → is_among (table_names c) table ≡ true → place_of table (table_names c ++ t.name ∷ []) ≡ Some place
      → slice_get (c.tables ++ table_from site t ∷ []) place ≡ Some d → column_names d ≡ columns_in table (earlier ++ Table t ∷ [])
  of_another table place d other among is at =
      let before : place_of table (table_names c) ≡ Some place = sym (still_placed table (table_names c) (t.name ∷ []) among) ∙ is in
      let within = (found_place table (table_names c) place before).within in
      m.columns table place d before (sym (at_front c.tables (table_from site t ∷ []) place (omega (arith, within, count))) ∙ at)
      ∙ sym
      (columns_in-append table earlier (Table t ∷ []) ∙ ap (λ (l : List (List ℕ)). columns_in table earlier ++ l) (columns_of_table table t ∙ ap (λ b. if b then names_of t.columns else []) other)
      ∙ append-nil (columns_in table earlier))

  still_among : (table : List ℕ) (place : ℕ) → same_numbers table t.name ≡ false → place_of table (table_names c ++ t.name ∷ []) ≡ Some place → is_among (table_names c) table ≡ true
  still_among table place other is =
      let all : (is_among (table_names c) table || (same_numbers table t.name || false)) ≡ true = sym (among-append (table_names c) (t.name ∷ []) table) ∙ among_found table (table_names c ++ t.name ∷ []) place is in
      elim (or_cases (is_among (table_names c) table) (same_numbers table t.name || false) all) [
        | inl h ↦ h
        | inr h ↦ absurd (both_ways (same_numbers table t.name || false) (rw other refl) h)
      ]

  columns_after : (table : List ℕ) (place : ℕ) (d : TableDef) → place_of table (table_names (with_table c site t)) ≡ Some place → slice_get (c.tables ++ table_from site t ∷ []) place ≡ Some d
      → column_names d ≡ columns_in table (earlier ++ Table t ∷ [])
  columns_after table place d is at = cases (same_numbers table t.name) refl where
    is' : place_of table (table_names c ++ t.name ∷ []) ≡ Some place
    is' = ap (place_of table) (sym names_after) ∙ is

    cases : (b : Bool) → same_numbers table t.name ≡ b → column_names d ≡ columns_in table (earlier ++ Table t ∷ [])
    cases true same = of_this table place d same is' at
    cases false other = of_another table place d other (still_among table place other is') is' at

  pub means_table : Means (with_table c site t) (earlier ++ Table t ∷ [])
  means_table =
      let x : List CatalogueStatement = Table t ∷ [] in
      record {
        sites = m.sites ∙ sym (sites_in-append earlier x ∙ append-nil (sites_in earlier));
        tables = names_after ∙ ap (λ l. l ++ t.name ∷ []) m.tables ∙ sym (tables_in-append earlier x);
        indexes = m.indexes ∙ sym (indexes_in-append earlier x ∙ append-nil (indexes_in earlier));
        columns = columns_after;
      }

-- ---- an index

abbrev pub with_index : Catalogue → ℕ → List ℕ → IndexPart → Catalogue
with_index c table columns i = record c { indexes = c.indexes ++ record { name = i.name; table = table; columns = columns; pages = i.pages } ∷ [] }

pub means_index : (c : Catalogue) (earlier : List CatalogueStatement) (table : ℕ) (columns : List ℕ) (i : IndexPart) → Means c earlier → Means (with_index c table columns i) (earlier ++ Index i ∷ [])
means_index c earlier table columns i m =
    let x : List CatalogueStatement = Index i ∷ [] in
    record {
      sites = m.sites ∙ sym (sites_in-append earlier x ∙ append-nil (sites_in earlier));
      tables = m.tables ∙ sym (tables_in-append earlier x ∙ append-nil (tables_in earlier));
      indexes = map-append (λ (d : IndexDef). d.name) c.indexes (record { name = i.name; table = table; columns = columns; pages = i.pages } ∷ []) ∙ ap (λ l. l ++ i.name ∷ []) m.indexes ∙ sym (indexes_in-append earlier x);
      columns = λ name place t is at. m.columns name place t is at ∙ sym (columns_in-append name earlier x ∙ append-nil (columns_in name earlier));
    }

-- ---- where each name is known, and none is defined twice

-- the table of an index, its columns, and their places
pub record FindsIndex (c : Catalogue) (i : IndexPart) : Type 0 where
  pub place : ℕ
  pub table : TableDef
  pub columns : List ℕ
  pub is : place_of i.table (table_names c) ≡ Some place
  pub at : slice_get c.tables place ≡ Some table
  pub stand : StandAll (column_names table) i.columns columns

get_within : (tables : List TableDef) (n : ℕ) → n < length tables → (t : TableDef) × (slice_get tables n ≡ Some t)
get_within [] n less = absurd (omega arith)
get_within (t ∷ tables) zero less = (t, refl)
get_within (t ∷ tables) (suc n) less = get_within tables n (omega arith)

pub finds_site : (c : Catalogue) (earlier : List CatalogueStatement) (t : TablePart) → Means c earlier → names_unknown earlier (Table t) ≡ false → (site : ℕ) × Stands t.site (site_names c) site
finds_site c earlier t m known = placed t.site (site_names c) (rw m.sites (not-false (is_among (sites_in earlier) t.site) known))

pub finds_index : (c : Catalogue) (earlier : List CatalogueStatement) (i : IndexPart) → Means c earlier → names_unknown earlier (Index i) ≡ false → FindsIndex c i
finds_index c earlier i m known =
    let p = or_parts (not (is_among (tables_in earlier) i.table)) (not (list_all (is_among (columns_in i.table earlier)) i.columns)) known in
    let place = placed i.table (table_names c) (rw m.tables (not-false (is_among (tables_in earlier) i.table) p.0)) in
    let within : place.0 < length c.tables = omega (arith, place.1.within, length-map c.tables (λ (d : TableDef). d.name)) in
    let table = get_within c.tables place.0 within in
    let names : columns_in i.table earlier ≡ column_names table.0 = sym (m.columns i.table place.0 table.0 place.1.is table.1) in
    let among : list_all (is_among (column_names table.0)) i.columns ≡ true =
    ap (λ (l : List (List ℕ)). list_all (is_among l) i.columns) (sym names) ∙ not-false (list_all (is_among (columns_in i.table earlier)) i.columns) p.1 in
    let columns = all_stand (column_names table.0) i.columns among in
    record { place = place.0; table = table.0; columns = columns.0; is = place.1.is; at = table.1; stand = columns.1 }

-- the catalogue with one statement more
pub record Goes (c : Catalogue) (earlier : List CatalogueStatement) (x : CatalogueStatement) : Type 0 where
  pub after : Catalogue
  pub is : with_statement c x ≡ Some after
  pub means : Means after (earlier ++ x ∷ [])

unfoldable pub goes : (c : Catalogue) (earlier : List CatalogueStatement) (x : CatalogueStatement) → Means c earlier → names_unknown earlier x ≡ false → (is_defined earlier x || has_column_twice x) ≡ false → Goes c earlier x
goes c earlier (Site s) m known once = record { after = with_site c s; is = refl; means = means_site c earlier s m }
goes c earlier (Table t) m known once =
    let site = finds_site c earlier t m known in
    let new = (or_parts (is_among (tables_in earlier) t.name) (not (differ same_numbers (names_of t.columns))) once).0 in
    record { after = with_table c site.0 t; is = rw site.1.is refl; means = means_table c earlier m site.0 t new }
goes c earlier (Index i) m known once =
    let found = finds_index c earlier i m known in
    record {
      after = with_index c found.place found.columns i;
      is = rw (found.is, found.at, all_of_places (column_names found.table) i.columns found.columns found.stand) refl;
      means = means_index c earlier found.place found.columns i m;
    }

-- ---- all statements

means_from : (c : Catalogue) (before statements : List CatalogueStatement) → Means c before → NoneFrom NamesUnknown before statements → NoneFrom DefinesTwice before statements
    → (d : Catalogue) × (with_statements c statements ≡ Some d)
means_from c before [] m known once = (c, refl)
means_from c before (x ∷ later) m known once =
    let one = goes c before x m (false_from_ne_true (names_unknown before x) known.0) (false_from_ne_true (is_defined before x || has_column_twice x) once.0) in
    let others = means_from one.after (before ++ x ∷ []) later one.means known.1 once.1 in
    (others.0, rw one.is others.1)

pub meant : (statements : List CatalogueStatement) → NoneHas NamesUnknown statements → NoneHas DefinesTwice statements → (c : Catalogue) × (catalogue_of statements ≡ Some c)
unfolding catalogue_of
meant statements known once = means_from nothing_defined [] statements means_nothing known once
