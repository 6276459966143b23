-- What each statement of a catalogue adds to it.
use Rattle.std.proofs.Common.{◌≡◌, ℕ, zero, suc, ◌⊎◌, inl, inr, true, List, [], ◌∷◌, ◌++◌, map, Some, refl, sym, ap, ◌∙◌, subst, append_assoc, append-nil}
use Rattle.std.specs.Prelude.{slice_get}
use Rattle.std.proofs.lemmas.Option.{option_and_then_some}
use Rattle.star_model.specs.declared.catalogue.Catalogue.{Catalogue}
use Rattle.star_model.specs.declared.catalogue.SiteDef.{SiteDef}
use Rattle.star_model.specs.declared.catalogue.TableDef.{TableDef}
use Rattle.star_model.specs.declared.catalogue.IndexDef.{IndexDef}
use Rattle.star_model.specs.Names.{place_of, is_among}
use Rattle.catalogue.specs.Catalogues.{CatalogueStatement, Site, Table, Index, TablePart, IndexPart, nothing_defined, site_names, table_names, column_names, table_from, with_statement, with_statements}
use Rattle.std.proofs.lemmas.List.{map-append}
use Rattle.std.proofs.lemmas.Bool.{or_left, or_right, and_from}
use Rattle.star_model.specs.Vectors.{same_numbers}
use Rattle.catalogue.specs.Defined.{sites_in, tables_in, indexes_in, names_of, columns_in}
use Rattle.catalogue.proofs.DefinedLaws.{sites_in-append, tables_in-append, indexes_in-append, columns_in-append, among-append, among_columns}
use Rattle.catalogue.proofs.PlaceLaws.{places_of}
use Rattle.star_model.proofs.Laws.{same_self}

abbrev pub index_names : Catalogue → List (List ℕ)
index_names c = map (λ i. i.name) c.indexes

-- ---- what a statement adds

-- the site that a table names, and the catalogue with the table
pub record TableAdded (d : Catalogue) (t : TablePart) (after : Catalogue) : Type 0 where
  pub site : ℕ
  pub found : place_of t.site (site_names d) ≡ Some site
  pub is : after ≡ record d { tables = d.tables ++ table_from site t ∷ [] }

pub table_added : (d : Catalogue) (t : TablePart) (after : Catalogue) → with_statement d (Table t) ≡ Some after → TableAdded d t after
table_added d t after defined =
    option_and_then_some _ (place_of t.site (site_names d)) after defined (λ site found made.
    let same : record d { tables = d.tables ++ table_from site t ∷ [] } ≡ after = cc in
    record { site = site; found = found; is = sym same })

abbrev pub made_index : IndexPart → ℕ → List ℕ → IndexDef
made_index i place columns = record { name = i.name; table = place; columns = columns; pages = i.pages }

-- the table and the columns that an index names, and the catalogue with the index
pub record IndexAdded (d : Catalogue) (i : IndexPart) (after : Catalogue) : Type 0 where
  pub place : ℕ
  pub table : TableDef
  pub columns : List ℕ
  pub found : place_of i.table (table_names d) ≡ Some place
  pub there : slice_get d.tables place ≡ Some table
  pub columns_found : places_of (column_names table) i.columns ≡ Some columns
  pub is : after ≡ record d { indexes = d.indexes ++ made_index i place columns ∷ [] }

pub index_added : (d : Catalogue) (i : IndexPart) (after : Catalogue) → with_statement d (Index i) ≡ Some after → IndexAdded d i after
index_added d i after defined =
    option_and_then_some _ (place_of i.table (table_names d)) after defined (λ place found more.
    option_and_then_some _ (slice_get d.tables place) after more (λ table there more2.
    option_and_then_some _ (places_of (column_names table) i.columns) after more2 (λ columns columns_found made.
    let same : record d { indexes = d.indexes ++ made_index i place columns ∷ [] } ≡ after = cc in
    record { place = place; table = table; columns = columns; found = found; there = there; columns_found = columns_found; is = sym same })))

-- ---- what later statements keep

pub record Extends (d c : Catalogue) : Type 0 where
  pub sites : List SiteDef
  pub tables : List TableDef
  pub indexes : List IndexDef
  pub are : c ≡ record { sites = d.sites ++ sites; tables = d.tables ++ tables; indexes = d.indexes ++ indexes }

extends_itself : (d : Catalogue) → Extends d d
extends_itself d = record {
  sites = [];
  tables = [];
  indexes = [];
  are = λ j. record { sites = sym (append-nil d.sites) j; tables = sym (append-nil d.tables) j; indexes = sym (append-nil d.indexes) j };
}

one_more : (d : Catalogue) (s : CatalogueStatement) (after : Catalogue) → with_statement d s ≡ Some after → Extends d after
one_more d (Site s) after defined =
    let same : record d { sites = d.sites ++ s ∷ [] } ≡ after = cc in
    subst (Extends d) same (record {
      sites = s ∷ [];
      tables = [];
      indexes = [];
      are = λ j. record { sites = d.sites ++ s ∷ []; tables = sym (append-nil d.tables) j; indexes = sym (append-nil d.indexes) j };
    })
one_more d (Table t) after defined =
    let added = table_added d t after defined in
    subst (Extends d) (sym added.is) (record {
      sites = [];
      tables = table_from added.site t ∷ [];
      indexes = [];
      are = λ j. record { sites = sym (append-nil d.sites) j; tables = d.tables ++ table_from added.site t ∷ []; indexes = sym (append-nil d.indexes) j };
    })
one_more d (Index i) after defined =
    let added = index_added d i after defined in
    subst (Extends d) (sym added.is) (record {
      sites = [];
      tables = [];
      indexes = made_index i added.place added.columns ∷ [];
      are = λ j. record {
        sites = sym (append-nil d.sites) j;
        tables = sym (append-nil d.tables) j;
        indexes = d.indexes ++ made_index i added.place added.columns ∷ [];
      };
    })

extends_on : (a b c : Catalogue) → Extends a b → Extends b c → Extends a c
extends_on a b c p q = record {
  sites = p.sites ++ q.sites;
  tables = p.tables ++ q.tables;
  indexes = p.indexes ++ q.indexes;
  are = q.are
      ∙ ap (λ (m : Catalogue). record { sites = m.sites ++ q.sites; tables = m.tables ++ q.tables; indexes = m.indexes ++ q.indexes }) p.are
      ∙ (λ j. record { sites = append_assoc a.sites p.sites q.sites j; tables = append_assoc a.tables p.tables q.tables j; indexes = append_assoc a.indexes p.indexes q.indexes j });
}

pub later_extend : (later : List CatalogueStatement) (d c : Catalogue) → with_statements d later ≡ Some c → Extends d c
later_extend [] d c defined = let same : d ≡ c = cc in subst (Extends d) same (extends_itself d)
later_extend (s ∷ later) d c defined =
    option_and_then_some (λ after. with_statements after later) (with_statement d s) c defined (λ after first others.
    extends_on d after c (one_more d s after first) (later_extend later after c others))

-- ---- what is defined so far is what the statements before define

pub record Follows (d : Catalogue) (before : List CatalogueStatement) : Type 0 where
  pub sites : sites_in before ≡ site_names d
  pub tables : tables_in before ≡ table_names d
  pub indexes : indexes_in before ≡ index_names d
  pub columns : (place : ℕ) (t : TableDef) → slice_get d.tables place ≡ Some t → (name : List ℕ) → is_among (column_names t) name ≡ true → is_among (columns_in t.name before) name ≡ true

-- a column stays known
still_known : (table name : List ℕ) (before : List CatalogueStatement) (s : CatalogueStatement) → is_among (columns_in table before) name ≡ true
    → is_among (columns_in table (before ++ s ∷ [])) name ≡ true
still_known table name before s known =
    ap (λ l. is_among l name) (columns_in-append table before (s ∷ [])) ∙ among-append (columns_in table before) (columns_in table (s ∷ [])) name
    ∙ or_left (is_among (columns_in table before) name) (is_among (columns_in table (s ∷ [])) name) known

pub follows_site : (d : Catalogue) (before : List CatalogueStatement) (s : SiteDef) → Follows d before → Follows (record d { sites = d.sites ++ s ∷ [] }) (before ++ Site s ∷ [])
follows_site d before s so_far = record {
  sites = sites_in-append before (Site s ∷ []) ∙ ap (λ l. l ++ s.name ∷ []) so_far.sites ∙ sym (map-append (λ (x : SiteDef). x.name) d.sites (s ∷ []));
  tables = tables_in-append before (Site s ∷ []) ∙ append-nil (tables_in before) ∙ so_far.tables;
  indexes = indexes_in-append before (Site s ∷ []) ∙ append-nil (indexes_in before) ∙ so_far.indexes;
  columns = λ place t there name known. still_known t.name name before (Site s) (so_far.columns place t there name known);
}

pub follows_index : (d : Catalogue) (before : List CatalogueStatement) (i : IndexPart) (x : IndexDef) → x.name ≡ i.name → Follows d before
    → Follows (record d { indexes = d.indexes ++ x ∷ [] }) (before ++ Index i ∷ [])
follows_index d before i x same so_far = record {
  sites = sites_in-append before (Index i ∷ []) ∙ append-nil (sites_in before) ∙ so_far.sites;
  tables = tables_in-append before (Index i ∷ []) ∙ append-nil (tables_in before) ∙ so_far.tables;
  indexes = indexes_in-append before (Index i ∷ []) ∙ ap (λ l. l ++ i.name ∷ []) so_far.indexes ∙ ap (λ n. index_names d ++ n ∷ []) (sym same) ∙ sym (map-append (λ (y : IndexDef). y.name) d.indexes (x ∷ []));
  columns = λ place t there name known. still_known t.name name before (Index i) (so_far.columns place t there name known);
}

-- the last item of a list, or one before it
last_or_before : {A : Type 0} (xs : List A) (x : A) (place : ℕ) (y : A) → slice_get (xs ++ x ∷ []) place ≡ Some y → (slice_get xs place ≡ Some y) ⊎ (x ≡ y)
last_or_before [] x zero y at = inr cc
last_or_before [] x (suc place) y at = absurd cc
last_or_before (z ∷ xs) x zero y at = inl at
last_or_before (z ∷ xs) x (suc place) y at = last_or_before xs x place y at

own_columns : (before : List CatalogueStatement) (t : TablePart) (name : List ℕ) → is_among (names_of t.columns) name ≡ true → is_among (columns_in t.name (before ++ Table t ∷ [])) name ≡ true
own_columns before t name known =
    ap (λ l. is_among l name) (columns_in-append t.name before (Table t ∷ [])) ∙ among-append (columns_in t.name before) (columns_in t.name (Table t ∷ [])) name
    ∙ or_right (is_among (columns_in t.name before) name) (is_among (columns_in t.name (Table t ∷ [])) name)
    (among_columns t.name name t ∙ and_from (same_numbers t.name t.name) (is_among (names_of t.columns) name) (same_self t.name) known)

pub follows_table : (d : Catalogue) (before : List CatalogueStatement) (t : TablePart) (site : ℕ) → Follows d before
    → Follows (record d { tables = d.tables ++ table_from site t ∷ [] }) (before ++ Table t ∷ [])
follows_table d before t site so_far = record {
  sites = sites_in-append before (Table t ∷ []) ∙ append-nil (sites_in before) ∙ so_far.sites;
  tables = tables_in-append before (Table t ∷ []) ∙ ap (λ l. l ++ t.name ∷ []) so_far.tables ∙ sym (map-append (λ (x : TableDef). x.name) d.tables (table_from site t ∷ []));
  indexes = indexes_in-append before (Table t ∷ []) ∙ append-nil (indexes_in before) ∙ so_far.indexes;
  columns = λ place u there name known.
      elim (last_or_before d.tables (table_from site t) place u there) [
        | inl earlier ↦ still_known u.name name before (Table t) (so_far.columns place u earlier name known)
        | inr last ↦
            subst (λ (v : TableDef). is_among (columns_in v.name (before ++ Table t ∷ [])) name ≡ true) last
            (own_columns before t name (ap (λ (v : TableDef). is_among (column_names v) name) last ∙ known))
      ];
}

pub follows_nothing : Follows nothing_defined []
follows_nothing = record { sites = refl; tables = refl; indexes = refl; columns = λ place t there name known. absurd cc }
