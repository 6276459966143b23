-- How a well-formed catalogue is written means that catalogue.
use Rattle.std.proofs.Common.{◌≡◌, ℕ, zero, suc, ◌+◌, ◌<◌, Bool, true, false, not, nat_lt, List, [], ◌∷◌, ◌++◌, map, length, Some, slice_get, refl, sym, ap, ◌∙◌, subst, arith, append_assoc, append-nil, ltb-true}
use Rattle.std.proofs.lemmas.Bool.{and_parts}
use Rattle.std.proofs.lemmas.List.{length-map}
use Rattle.std.specs.List.{position_from, list_all}
use Rattle.std.specs.Option.{option_map_or}
use Rattle.std.specs.Cmp.Lexicographic.{same_text}
use Rattle.star_model.specs.Vectors.{same_numbers}
use Rattle.star_model.specs.WellFormed as well
use Rattle.star_model.specs.WellFormed.{differ, Each, WellFormedTable, WellFormedIndex, WellFormedCatalogue, columns_in}
use Rattle.star_model.specs.declared.catalogue.Catalogue.{Catalogue}
use Rattle.star_model.specs.declared.catalogue.SiteDef.{SiteDef}
use Rattle.star_model.specs.declared.catalogue.TableDef.{TableDef}
use Rattle.star_model.specs.declared.catalogue.ColumnDef.{ColumnDef}
use Rattle.star_model.specs.declared.catalogue.IndexDef.{IndexDef}
use Rattle.spelling.specs.Lexemes.{IsStatements}
use Rattle.star_model.specs.Every.{Every, HasItem}
use Rattle.star_model.specs.Names.{place_of}
use Rattle.spelling.specs.Names.{all_of}
use Rattle.catalogue.specs.Catalogues.{CatalogueStatement, Site, with_statements, nothing_defined, catalogue_of, name_at, site_names, table_names, column_names, column_names_at, table_statement, index_statement, catalogue_statements, catalogue_lexemes, HasColumns, SpellsCatalogue}
use Rattle.star_model.proofs.Laws.{same_self}

-- ---- a name that no other is stands at its own place

un_not : (b : Bool) → not b ≡ true → b ≡ false
un_not true e = cc
un_not false e = refl

other_way : (a b : List ℕ) → same_numbers a b ≡ false → same_numbers b a ≡ false
other_way a b e = at (same_numbers b a) refl where
  at : (c : Bool) → same_numbers b a ≡ c → c ≡ false
  at false is = refl
  at true is =
      let same = same_text b a (sym is) in
      let yes_ : same_numbers a b ≡ true = ap (λ (l : List ℕ). same_numbers a l) same ∙ same_self a in
      let bad : true ≡ false = sym yes_ ∙ e in
      cc

other_at : (x : List ℕ) (xs : List (List ℕ)) (n : ℕ) → n < length xs → list_all (λ y. not (same_numbers x y)) xs ≡ true → same_numbers (name_at xs n) x ≡ false
other_at x [] n less all = absurd (omega arith)
other_at x (y ∷ xs) zero less all = other_way x y (un_not _ (and_parts _ _ all).0)
other_at x (y ∷ xs) (suc n) less all = other_at x xs n (omega arith) (and_parts _ _ all).1

own_place : (k : ℕ) (names : List (List ℕ)) (n : ℕ) → n < length names → differ same_numbers names ≡ true → position_from (same_numbers (name_at names n)) k names ≡ Some (k + n)
own_place k [] n less d = absurd (omega arith)
own_place k (x ∷ xs) zero less d =
    let e : k ≡ k + 0 = omega arith in
    rw (same_self x) (ap (λ m. Some m) e)
own_place k (x ∷ xs) (suc n) less d =
    let e : k + 1 + n ≡ k + suc n = omega arith in
    let p = and_parts _ _ d in
    rw (other_at x xs n (omega arith) p.0) (own_place (k + 1) xs n (omega arith) p.1 ∙ ap (λ m. Some m) e)

placed : (names : List (List ℕ)) (n : ℕ) → n < length names → differ same_numbers names ≡ true → place_of (name_at names n) names ≡ Some n
placed names n less d = let e : 0 + n ≡ n = omega arith in own_place 0 names n less d ∙ ap (λ m. Some m) e

all_placed : (names : List (List ℕ)) (ns : List ℕ) → list_all (λ n. nat_lt n (length names)) ns ≡ true → differ same_numbers names ≡ true
    → all_of (map (λ name. place_of name names) (map (name_at names) ns)) ≡ Some ns
all_placed names [] all d = refl
all_placed names (n ∷ ns) all d =
    let p = and_parts (nat_lt n (length names)) _ all in
    rw (placed names n (ltb-true n (length names) p.0) d, all_placed names ns p.1 d) refl

-- ---- statement by statement

with_sites : (c : Catalogue) (ss : List SiteDef) (rest : List CatalogueStatement) → with_statements c (map Site ss ++ rest) ≡ with_statements (record c { sites = c.sites ++ ss }) rest
with_sites c [] rest = ap (λ (l : List SiteDef). with_statements (record c { sites = l }) rest) (sym (append-nil c.sites))
with_sites c (s ∷ ss) rest =
    with_sites (record c { sites = c.sites ++ s ∷ [] }) ss rest ∙ ap (λ (l : List SiteDef). with_statements (record c { sites = l }) rest) (append_assoc c.sites (s ∷ []) ss)

site_below : (whole : Catalogue) (n : ℕ) → n < length whole.sites → differ same_numbers (site_names whole) ≡ true → place_of (name_at (site_names whole) n) (site_names whole) ≡ Some n
site_below whole n less d = placed (site_names whole) n (omega (arith, length-map whole.sites (λ (s : SiteDef). s.name))) d

-- the sites are defined, and some of the tables
with_tables : (whole : Catalogue) (done ts : List TableDef) (rest : List CatalogueStatement) → differ same_numbers (site_names whole) ≡ true → Each (WellFormedTable (length whole.sites)) ts
    → with_statements (record { sites = whole.sites; tables = done; indexes = [] }) (map (table_statement whole) ts ++ rest) ≡ with_statements (record { sites = whole.sites; tables = done ++ ts; indexes = [] }) rest
with_tables whole done [] rest d well = ap (λ (l : List TableDef). with_statements (record { sites = whole.sites; tables = l; indexes = [] }) rest) (sym (append-nil done))
with_tables whole done (t ∷ ts) rest d (well.more _ _ p later) =
    rw (site_below whole t.site.0 p.site d)
    (with_tables whole (done ++ t ∷ []) ts rest d later ∙ ap (λ (l : List TableDef). with_statements (record { sites = whole.sites; tables = l; indexes = [] }) rest) (append_assoc done (t ∷ []) ts))

pub each_at : {A : Type 0} {P : A → Type 0} (xs : List A) (n : ℕ) → Each P xs → n < length xs → (x : A) × (slice_get xs n ≡ Some x) × P x
each_at [] n h less = absurd (omega arith)
each_at (x ∷ xs) zero (well.more _ _ p later) less = (x, refl, p)
each_at (x ∷ xs) (suc n) (well.more _ _ p later) less = each_at xs n later (omega arith)

columns_at : (whole : Catalogue) (i : IndexDef) (t : TableDef) → slice_get whole.tables i.table ≡ Some t → WellFormedIndex whole.tables i → differ same_numbers (column_names t) ≡ true
    → all_of (map (λ name. place_of name (column_names t)) (map (name_at (column_names t)) i.columns)) ≡ Some i.columns
columns_at whole i t is p d =
    let count : columns_in whole.tables i.table ≡ length (column_names t) = ap (λ o. option_map_or (λ (t : TableDef). length t.columns) o 0) is ∙ sym (length-map t.columns (λ (c : ColumnDef). c.name)) in
    all_placed (column_names t) i.columns (subst (λ m. list_all (λ c. nat_lt c m) i.columns ≡ true) count p.columns) d

with_indexes : (whole : Catalogue) (done is : List IndexDef) → differ same_numbers (table_names whole) ≡ true → Each (WellFormedTable (length whole.sites)) whole.tables → Each (WellFormedIndex whole.tables) is
    → with_statements (record { sites = whole.sites; tables = whole.tables; indexes = done }) (map (index_statement whole) is) ≡ Some (record { sites = whole.sites; tables = whole.tables; indexes = done ++ is })
with_indexes whole done [] d tables well = ap (λ (l : List IndexDef). Some (record { sites = whole.sites; tables = whole.tables; indexes = l })) (sym (append-nil done))
with_indexes whole done (i ∷ is) d tables (well.more _ _ p later) =
    let found = each_at whole.tables i.table tables p.table in
    let place = placed (table_names whole) i.table (omega (arith, p.table, length-map whole.tables (λ (t : TableDef). t.name))) d in
    let columns = columns_at whole i found.0 found.1 p found.2.columns_differ in
    rw (place, found.1, columns)
    (with_indexes whole (done ++ i ∷ []) is d tables later ∙ ap (λ (l : List IndexDef). Some (record { sites = whole.sites; tables = whole.tables; indexes = l })) (append_assoc done (i ∷ []) is))

pub written_catalogue : (c : Catalogue) → WellFormedCatalogue c → catalogue_of (catalogue_statements c) ≡ Some c
unfolding catalogue_of
written_catalogue c h =
    with_sites nothing_defined c.sites (map (table_statement c) c.tables ++ map (index_statement c) c.indexes)
    ∙ with_tables c [] c.tables (map (index_statement c) c.indexes) h.sites_differ h.tables
    ∙ with_indexes c [] c.indexes h.tables_differ h.tables h.indexes

-- ---- a text with these statements

both : {A : Type 0} (P : A → Type 0) (xs ys : List A) → Every P xs → Every P ys → Every P (xs ++ ys)
both P [] ys h k = k
both P (x ∷ xs) ys h k = (h.0, both P xs ys h.1 k)

has_item : {A : Type 0} (xs : List A) → 0 < length xs → HasItem xs
has_item [] h = absurd (omega arith)
has_item (x ∷ xs) h = tt

map_item : {A B : Type 0} (f : A → B) (xs : List A) → HasItem xs → HasItem (map f xs)
map_item f [] h = h
map_item f (x ∷ xs) h = tt

of_sites : (ss : List SiteDef) → Every HasColumns (map Site ss)
of_sites [] = tt
of_sites (s ∷ ss) = (tt, of_sites ss)

of_tables : (c : Catalogue) (n : ℕ) (ts : List TableDef) → Each (WellFormedTable n) ts → Every HasColumns (map (table_statement c) ts)
of_tables c n [] h = tt
of_tables c n (t ∷ ts) (well.more _ _ p later) = (has_item t.columns p.some_columns.0, of_tables c n ts later)

of_indexes : (c : Catalogue) (is : List IndexDef) → Each (WellFormedIndex c.tables) is → Every HasColumns (map (index_statement c) is)
of_indexes c [] h = tt
of_indexes c (i ∷ is) (well.more _ _ p later) = (map_item (name_at (column_names_at c i.table)) i.columns (has_item i.columns p.some_columns.0), of_indexes c is later)

pub written_catalogue_spells : (c : Catalogue) → WellFormedCatalogue c → (text : List ℕ) → IsStatements text (map catalogue_lexemes (catalogue_statements c)) → SpellsCatalogue text c
written_catalogue_spells c h text are = record {
  statements = catalogue_statements c;
  are = are;
  columns = both HasColumns (map Site c.sites) (map (table_statement c) c.tables ++ map (index_statement c) c.indexes) (of_sites c.sites)
      (both HasColumns (map (table_statement c) c.tables) (map (index_statement c) c.indexes) (of_tables c (length c.sites) c.tables h.tables) (of_indexes c c.indexes h.indexes));
  means = written_catalogue c h;
}
