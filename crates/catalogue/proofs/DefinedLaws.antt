-- What more statements define.
use Rattle.std.proofs.Common.{◌≡◌, ℕ, Bool, true, false, List, [], ◌∷◌, ◌++◌, map, refl, ap, sym, ◌∙◌, append_assoc, append-nil}
use Rattle.std.specs.Prelude.{if◌then◌else◌, ◌||◌, ◌&&◌}
use Rattle.std.specs.List.{list_any}
use Rattle.star_model.specs.declared.catalogue.ColumnDef.{ColumnDef}
use Rattle.std.proofs.lemmas.List.Folds.{list_any-append}
use Rattle.star_model.specs.Vectors.{same_numbers}
use Rattle.star_model.specs.Names.{is_among}
use Rattle.catalogue.specs.Catalogues.{CatalogueStatement, Site, Table, Index, TablePart}
use Rattle.catalogue.specs.declared.words.ColumnWords.{ColumnWords}
use Rattle.catalogue.specs.Words.{column_of}
use Rattle.catalogue.specs.Known.{column_names}
use Rattle.catalogue.specs.Defined.{sites_in, tables_in, indexes_in, names_of, columns_in}

pub sites_in-append : (xs ys : List CatalogueStatement) → sites_in (xs ++ ys) ≡ sites_in xs ++ sites_in ys
sites_in-append [] ys = refl
sites_in-append (Site s ∷ xs) ys = ap (λ l. s.name ∷ l) (sites_in-append xs ys)
sites_in-append (Table t ∷ xs) ys = sites_in-append xs ys
sites_in-append (Index i ∷ xs) ys = sites_in-append xs ys

pub tables_in-append : (xs ys : List CatalogueStatement) → tables_in (xs ++ ys) ≡ tables_in xs ++ tables_in ys
tables_in-append [] ys = refl
tables_in-append (Site s ∷ xs) ys = tables_in-append xs ys
tables_in-append (Table t ∷ xs) ys = ap (λ l. t.name ∷ l) (tables_in-append xs ys)
tables_in-append (Index i ∷ xs) ys = tables_in-append xs ys

pub indexes_in-append : (xs ys : List CatalogueStatement) → indexes_in (xs ++ ys) ≡ indexes_in xs ++ indexes_in ys
indexes_in-append [] ys = refl
indexes_in-append (Site s ∷ xs) ys = indexes_in-append xs ys
indexes_in-append (Table t ∷ xs) ys = indexes_in-append xs ys
indexes_in-append (Index i ∷ xs) ys = ap (λ l. i.name ∷ l) (indexes_in-append xs ys)

pub columns_in-append : (table : List ℕ) (xs ys : List CatalogueStatement) → columns_in table (xs ++ ys) ≡ columns_in table xs ++ columns_in table ys
columns_in-append table [] ys = refl
columns_in-append table (Site s ∷ xs) ys = columns_in-append table xs ys
columns_in-append table (Table t ∷ xs) ys =
    ap (λ l. if same_numbers table t.name then names_of t.columns ++ l else l) (columns_in-append table xs ys)
    ∙ choice (same_numbers table t.name) (names_of t.columns) (columns_in table xs) (columns_in table ys) where
      choice : (b : Bool) (own xs ys : List (List ℕ)) → (if b then own ++ (xs ++ ys) else xs ++ ys) ≡ (if b then own ++ xs else xs) ++ ys
      choice true own xs ys = sym (append_assoc own xs ys)
      choice false own xs ys = refl
columns_in-append table (Index i ∷ xs) ys = columns_in-append table xs ys

pub among-append : (names more : List (List ℕ)) (name : List ℕ) → is_among (names ++ more) name ≡ (is_among names name || is_among more name)
among-append names more name = list_any-append (same_numbers name) names more

-- of one table, all its columns
pub columns_of_table : (table : List ℕ) (t : TablePart) → columns_in table (Table t ∷ []) ≡ (if same_numbers table t.name then names_of t.columns else [])
columns_of_table table t = choice (same_numbers table t.name) (names_of t.columns) where
  choice : (b : Bool) (own : List (List ℕ)) → (if b then own ++ [] else []) ≡ (if b then own else [])
  choice true own = append-nil own
  choice false own = refl

pub among_columns : (table column : List ℕ) (t : TablePart) → is_among (columns_in table (Table t ∷ [])) column ≡ (same_numbers table t.name && is_among (names_of t.columns) column)
among_columns table column t = ap (λ l. is_among l column) (columns_of_table table t) ∙ choice (same_numbers table t.name) (names_of t.columns) where
  choice : (b : Bool) (own : List (List ℕ)) → is_among (if b then own else []) column ≡ (b && is_among own column)
  choice true own = refl
  choice false own = refl

-- the names of columns as they are written
pub names_of_columns : (columns : List ColumnWords) → names_of (map column_of columns) ≡ column_names columns
names_of_columns [] = refl
names_of_columns (c ∷ columns) = ap (λ l. c.name ∷ l) (names_of_columns columns)

pub some_column : (test : ColumnDef → Bool) (columns : List ColumnWords) → list_any (λ c. test (column_of c)) columns ≡ list_any test (map column_of columns)
some_column test [] = refl
some_column test (c ∷ columns) = ap (λ b. test (column_of c) || b) (some_column test columns)
