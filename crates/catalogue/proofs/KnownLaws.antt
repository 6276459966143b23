-- What is kept of the statements stays what they define.
use Rattle.std.proofs.Common.{◌≡◌, ℕ, Bool, true, false, List, [], ◌∷◌, ◌++◌, map, refl, ap, sym, ◌∙◌}
use Rattle.std.specs.Prelude.{if◌then◌else◌, ◌||◌, ◌&&◌}
use Rattle.std.specs.List.{list_any}
use Rattle.std.specs.Cmp.Lexicographic.{same_text}
use Rattle.std.proofs.lemmas.List.Folds.{list_any-append}
use Rattle.std.proofs.lemmas.Bool.{and_parts}
use Rattle.std.proofs.Math.Bool.{or-false}
use Rattle.star_model.specs.Vectors.{same_numbers}
use Rattle.star_model.specs.Names.{is_among}
use Rattle.catalogue.specs.Catalogues as statement
use Rattle.catalogue.specs.Catalogues.{CatalogueStatement}
use Rattle.catalogue.specs.declared.words.SiteWords.{SiteWords}
use Rattle.catalogue.specs.declared.words.ColumnWords.{ColumnWords}
use Rattle.catalogue.specs.declared.words.TableWords.{TableWords}
use Rattle.catalogue.specs.declared.words.IndexWords.{IndexWords}
use Rattle.catalogue.specs.declared.names.Known.{Known}
use Rattle.catalogue.specs.declared.names.Defined.{Defined}
use Rattle.catalogue.specs.NameSets.{with_name, NamePair, has_pair, with_pair}
use Rattle.catalogue.specs.Words.{site_of, column_of, table_of, index_of}
use Rattle.catalogue.specs.Defined.{sites_in, tables_in, indexes_in, names_of, columns_in}
use Rattle.catalogue.specs.Known.{with_columns, Knows, Defines}
use Rattle.catalogue.proofs.DefinedLaws.{sites_in-append, tables_in-append, indexes_in-append, columns_in-append, among-append, among_columns}

-- ---- sets with one more

-- Items with one more where it is new, looked through with a test: of those that pass the test of the new item.
module _ {A : Type 0} (same : A → A → Bool) (is_same : (x y : A) → same x y ≡ true → x ≡ y) where
  known_already : (items : List A) (x y : A) → list_any (same x) items ≡ true → list_any (same y) items ≡ (list_any (same y) items || same y x)
  known_already items x y is = at (same y x) refl where
    at : (b : Bool) → same y x ≡ b → list_any (same y) items ≡ (list_any (same y) items || b)
    at false no_ = sym (or-false (list_any (same y) items))
    at true yes_ =
        let found : list_any (same y) items ≡ true = ap (λ (z : A). list_any (same z) items) (is_same y x yes_) ∙ is in
        rw found refl

  any-with_item : (items : List A) (x y : A) → list_any (same y) (if list_any (same x) items then items else items ++ x ∷ []) ≡ (list_any (same y) items || same y x)
  any-with_item items x y = at (list_any (same x) items) refl where
    at : (b : Bool) → list_any (same x) items ≡ b → list_any (same y) (if b then items else items ++ x ∷ []) ≡ (list_any (same y) items || same y x)
    at true is = known_already items x y is
    at false is = list_any-append (same y) items (x ∷ []) ∙ ap (λ b. list_any (same y) items || b) (or-false (same y x))

same_name : (x y : List ℕ) → same_numbers x y ≡ true → x ≡ y
same_name x y is = same_text x y (sym is)

pub among-with_name : (names : List (List ℕ)) (name other : List ℕ) → is_among (with_name names name) other ≡ (is_among names other || same_numbers other name)
among-with_name names name other = any-with_item same_numbers same_name names name other

abbrev same_pair : NamePair → NamePair → Bool
same_pair pair other = same_numbers pair.0 other.0 && same_numbers pair.1 other.1

is_same_pair : (x y : NamePair) → same_pair x y ≡ true → x ≡ y
is_same_pair x y is =
    let p = and_parts (same_numbers x.0 y.0) (same_numbers x.1 y.1) is in
    let first = same_name x.0 y.0 p.0 in
    let second = same_name x.1 y.1 p.1 in
    λ i. (first i, second i)

pub has_pair-with_pair : (pairs : List NamePair) (table column first second : List ℕ)
    → has_pair (with_pair pairs table column) first second ≡ (has_pair pairs first second || (same_numbers first table && same_numbers second column))
has_pair-with_pair pairs table column first second = any-with_item same_pair is_same_pair pairs (table, column) (first, second)

spread : (b c d e : Bool) → ((b || (c && d)) || (c && e)) ≡ (b || (c && (d || e)))
spread true c d e = refl
spread false false d e = refl
spread false true d e = refl

none_there : (b c : Bool) → b ≡ (b || (c && false))
none_there true c = refl
none_there false true = refl
none_there false false = refl

pub has_pair-with_columns : (pairs : List NamePair) (table : List ℕ) (columns : List ColumnWords) (first second : List ℕ)
    → has_pair (with_columns pairs table columns) first second ≡ (has_pair pairs first second || (same_numbers first table && is_among (names_of (map column_of columns)) second))
has_pair-with_columns pairs table [] first second = none_there (has_pair pairs first second) (same_numbers first table)
has_pair-with_columns pairs table (c ∷ columns) first second =
    has_pair-with_columns (with_pair pairs table c.name) table columns first second
    ∙ ap (λ b. b || (same_numbers first table && is_among (names_of (map column_of columns)) second)) (has_pair-with_pair pairs table c.name first second)
    ∙ spread (has_pair pairs first second) (same_numbers first table) (same_numbers second c.name) (is_among (names_of (map column_of columns)) second)

-- ---- one statement more

-- a name is among those of one statement more
more_names : (in_ : List CatalogueStatement → List (List ℕ)) → ((xs ys : List CatalogueStatement) → in_ (xs ++ ys) ≡ in_ xs ++ in_ ys)
    → (earlier : List CatalogueStatement) (x : CatalogueStatement) (name : List ℕ) → is_among (in_ (earlier ++ x ∷ [])) name ≡ (is_among (in_ earlier) name || is_among (in_ (x ∷ [])) name)
more_names in_ append earlier x name = ap (λ l. is_among l name) (append earlier (x ∷ [])) ∙ among-append (in_ earlier) (in_ (x ∷ [])) name

-- a set with one name more, and the statements with one that defines it
one_more : (in_ : List CatalogueStatement → List (List ℕ)) → ((xs ys : List CatalogueStatement) → in_ (xs ++ ys) ≡ in_ xs ++ in_ ys)
    → (names : List (List ℕ)) (earlier : List CatalogueStatement) (x : CatalogueStatement) (new : List ℕ) → in_ (x ∷ []) ≡ new ∷ []
    → ((name : List ℕ) → is_among names name ≡ is_among (in_ earlier) name) → (name : List ℕ) → is_among (with_name names new) name ≡ is_among (in_ (earlier ++ x ∷ [])) name
one_more in_ append names earlier x new is same name =
    among-with_name names new name ∙ ap (λ b. b || same_numbers name new) (same name)
    ∙ ap (λ b. is_among (in_ earlier) name || b) (sym (or-false (same_numbers name new)) ∙ ap (λ l. is_among l name) (sym is))
    ∙ sym (more_names in_ append earlier x name)

-- names that one statement more leaves as they are
no_more : (in_ : List CatalogueStatement → List (List ℕ)) → ((xs ys : List CatalogueStatement) → in_ (xs ++ ys) ≡ in_ xs ++ in_ ys)
    → (b : Bool) (earlier : List CatalogueStatement) (x : CatalogueStatement) (name : List ℕ) → in_ (x ∷ []) ≡ [] → b ≡ is_among (in_ earlier) name → b ≡ is_among (in_ (earlier ++ x ∷ [])) name
no_more in_ append b earlier x name is same =
    same ∙ sym (or-false (is_among (in_ earlier) name)) ∙ ap (λ (l : List (List ℕ)). is_among (in_ earlier) name || is_among l name) (sym is) ∙ sym (more_names in_ append earlier x name)

pub knows_site : (known : Known) (earlier : List CatalogueStatement) (s : SiteWords) (sites : List (List ℕ)) → sites ≡ with_name known.sites s.name → Knows known earlier
    → Knows (record known { sites = sites }) (earlier ++ statement.Site (site_of s) ∷ [])
knows_site known earlier s sites is knows =
    let x : CatalogueStatement = statement.Site (site_of s) in
    record {
      sites = λ name. ap (λ l. is_among l name) is ∙ one_more sites_in sites_in-append known.sites earlier x s.name refl knows.sites name;
      tables = λ name. no_more tables_in tables_in-append _ earlier x name refl (knows.tables name);
      columns = λ table column. no_more (columns_in table) (columns_in-append table) _ earlier x column refl (knows.columns table column);
    }

pub knows_table : (known new : Known) (earlier : List CatalogueStatement) (t : TableWords)
    → new ≡ record known { tables = with_name known.tables t.name; columns = with_columns known.columns t.name t.columns } → Knows known earlier
    → Knows new (earlier ++ statement.Table (table_of t) ∷ [])
knows_table known new earlier t is knows =
    let x : CatalogueStatement = statement.Table (table_of t) in
    rw is record {
      sites = λ name. no_more sites_in sites_in-append _ earlier x name refl (knows.sites name);
      tables = λ name. one_more tables_in tables_in-append known.tables earlier x t.name refl knows.tables name;
      columns = λ table column.
          has_pair-with_columns known.columns t.name t.columns table column
          ∙ ap (λ b. b || (same_numbers table t.name && is_among (names_of (map column_of t.columns)) column)) (knows.columns table column)
          ∙ ap (λ b. is_among (columns_in table earlier) column || b) (sym (among_columns table column (table_of t)))
          ∙ sym (more_names (columns_in table) (columns_in-append table) earlier x column);
    }

pub knows_index : (known : Known) (earlier : List CatalogueStatement) (i : IndexWords) → Knows known earlier → Knows known (earlier ++ statement.Index (index_of i) ∷ [])
knows_index known earlier i knows =
    let x : CatalogueStatement = statement.Index (index_of i) in
    record {
      sites = λ name. no_more sites_in sites_in-append _ earlier x name refl (knows.sites name);
      tables = λ name. no_more tables_in tables_in-append _ earlier x name refl (knows.tables name);
      columns = λ table column. no_more (columns_in table) (columns_in-append table) _ earlier x column refl (knows.columns table column);
    }

-- ---- what is defined

pub defines_site : (defined : Defined) (earlier : List CatalogueStatement) (s : SiteWords) (sites : List (List ℕ)) → sites ≡ with_name defined.sites s.name → Defines defined earlier
    → Defines (record defined { sites = sites }) (earlier ++ statement.Site (site_of s) ∷ [])
defines_site defined earlier s sites is all =
    let x : CatalogueStatement = statement.Site (site_of s) in
    record {
      sites = λ name. ap (λ l. is_among l name) is ∙ one_more sites_in sites_in-append defined.sites earlier x s.name refl all.sites name;
      tables = λ name. no_more tables_in tables_in-append _ earlier x name refl (all.tables name);
      indexes = λ name. no_more indexes_in indexes_in-append _ earlier x name refl (all.indexes name);
    }

pub defines_table : (defined : Defined) (earlier : List CatalogueStatement) (t : TableWords) (tables : List (List ℕ)) → tables ≡ with_name defined.tables t.name → Defines defined earlier
    → Defines (record defined { tables = tables }) (earlier ++ statement.Table (table_of t) ∷ [])
defines_table defined earlier t tables is all =
    let x : CatalogueStatement = statement.Table (table_of t) in
    record {
      sites = λ name. no_more sites_in sites_in-append _ earlier x name refl (all.sites name);
      tables = λ name. ap (λ l. is_among l name) is ∙ one_more tables_in tables_in-append defined.tables earlier x t.name refl all.tables name;
      indexes = λ name. no_more indexes_in indexes_in-append _ earlier x name refl (all.indexes name);
    }

pub defines_index : (defined : Defined) (earlier : List CatalogueStatement) (i : IndexWords) (indexes : List (List ℕ)) → indexes ≡ with_name defined.indexes i.name → Defines defined earlier
    → Defines (record defined { indexes = indexes }) (earlier ++ statement.Index (index_of i) ∷ [])
defines_index defined earlier i indexes is all =
    let x : CatalogueStatement = statement.Index (index_of i) in
    record {
      sites = λ name. no_more sites_in sites_in-append _ earlier x name refl (all.sites name);
      tables = λ name. no_more tables_in tables_in-append _ earlier x name refl (all.tables name);
      indexes = λ name. ap (λ l. is_among l name) is ∙ one_more indexes_in indexes_in-append defined.indexes earlier x i.name refl all.indexes name;
    }
