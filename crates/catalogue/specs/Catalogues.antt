-- Which text spells a catalogue. The statements name what they use; what they name was defined before.
use Rattle.std.specs.Prelude.{◌≡◌, ℕ, List, [], ◌∷◌, ◌++◌, map, Option, Some, option_and_then, slice_get, unwrap_or, codes}
use Rattle.star_model.specs.declared.catalogue.Catalogue.{Catalogue}
use Rattle.star_model.specs.declared.catalogue.SiteDef.{SiteDef}
use Rattle.star_model.specs.declared.catalogue.ColumnDef.{ColumnDef}
use Rattle.star_model.specs.declared.catalogue.TableDef.{TableDef}
use Rattle.star_model.specs.declared.catalogue.ColType.{ColType}
use Rattle.star_model.specs.declared.catalogue.ColType.TheVariants as type
use Rattle.star_model.specs.declared.catalogue.IndexDef.{IndexDef}
use Rattle.std.specs.Option.{option_map_or}
use Rattle.spelling.specs.Lexemes.{Lexeme, Word, Number, Text, IsStatements, comma, joined_by, bracketed}
use Rattle.star_model.specs.Every.{Every, HasItem}
use Rattle.spelling.specs.Layout.{layout}
use Rattle.star_model.specs.Names.{place_of}
use Rattle.spelling.specs.Names.{all_of, ◌>>=◌}

-- ---- the grammar

-- a table that names its site
pub record TablePart : Type 0 where
  pub name : List ℕ
  pub site : List ℕ
  pub rows : ℕ
  pub pages : ℕ
  pub file : List ℕ
  pub columns : List ColumnDef

-- an index that names its table and its columns
pub record IndexPart : Type 0 where
  pub name : List ℕ
  pub table : List ℕ
  pub columns : List (List ℕ)
  pub pages : ℕ

pub data CatalogueStatement : Type 0 where
  Site : SiteDef → CatalogueStatement
  Table : TablePart → CatalogueStatement
  Index : IndexPart → CatalogueStatement

abbrev pub type_word : ColType → List ℕ
type_word type.Int = codes "int"
type_word type.Text = codes "text"

abbrev pub column_lexemes : ColumnDef → List Lexeme
column_lexemes c =
    Word c.name ∷ Word (type_word c.kind) ∷ Word (codes "width") ∷ Number c.width ∷ Word (codes "distinct") ∷ Number c.distinct ∷ []

abbrev pub name_lexemes : List ℕ → List Lexeme
name_lexemes name = Word name ∷ []

abbrev pub catalogue_lexemes : CatalogueStatement → List Lexeme
catalogue_lexemes (Site s) =
    Word (codes "site") ∷ Word s.name ∷ Word (codes "cpu") ∷ Number s.cpu ∷ Word (codes "net") ∷ Number s.net ∷ []
catalogue_lexemes (Table t) =
    Word (codes "table") ∷ Word t.name ∷ Word (codes "at") ∷ Word t.site ∷ Word (codes "rows") ∷ Number t.rows
    ∷ Word (codes "pages") ∷ Number t.pages ∷ Word (codes "file") ∷ Text t.file ∷ bracketed (joined_by comma (map column_lexemes t.columns))
catalogue_lexemes (Index i) =
    Word (codes "index") ∷ Word i.name ∷ Word (codes "on") ∷ Word i.table
    ∷ (bracketed (joined_by comma (map name_lexemes i.columns)) ++ Word (codes "pages") ∷ Number i.pages ∷ [])

-- a table has a column, and so has an index
abbrev pub HasColumns : CatalogueStatement → Type 0
HasColumns (Site s) = Unit {0}
HasColumns (Table t) = HasItem t.columns
HasColumns (Index i) = HasItem i.columns

pub record SpellsCatalogueStatement (lexemes : List Lexeme) (statement : CatalogueStatement) : Type 0 where
  pub are : lexemes ≡ catalogue_lexemes statement
  pub columns : HasColumns statement

-- ---- what the names stand for

abbrev pub site_names : Catalogue → List (List ℕ)
site_names c = map (λ s. s.name) c.sites

abbrev pub table_names : Catalogue → List (List ℕ)
table_names c = map (λ t. t.name) c.tables

abbrev pub column_names : TableDef → List (List ℕ)
column_names t = map (λ d. d.name) t.columns

abbrev pub table_from : ℕ → TablePart → TableDef
table_from site t =
    record { name = t.name; site = record { 0 = site }; rows = t.rows; pages = t.pages; file = t.file; columns = t.columns }

-- the catalogue with what the statement defines at the end of its list; none where it names what isn't defined
abbrev pub with_statement : Catalogue → CatalogueStatement → Option Catalogue
with_statement c (Site s) = Some (record c { sites = c.sites ++ s ∷ [] })
with_statement c (Table t) = do
  site ← place_of t.site (site_names c)
  Some (record c { tables = c.tables ++ table_from site t ∷ [] })
with_statement c (Index i) = do
  place ← place_of i.table (table_names c)
  table ← slice_get c.tables place
  columns ← all_of (map (λ name. place_of name (column_names table)) i.columns)
  Some (record c { indexes = c.indexes ++ record { name = i.name; table = place; columns = columns; pages = i.pages } ∷ [] })

abbrev pub with_statements : Catalogue → List CatalogueStatement → Option Catalogue
with_statements c [] = Some c
with_statements c (statement ∷ later) = option_and_then (λ after. with_statements after later) (with_statement c statement)

abbrev pub nothing_defined : Catalogue
nothing_defined = record { sites = []; tables = []; indexes = [] }

unfoldable pub catalogue_of : List CatalogueStatement → Option Catalogue
catalogue_of statements = with_statements nothing_defined statements

-- ---- how a catalogue is written: its sites, then its tables, then its indexes

-- the name at a place; the empty one where there is none
abbrev pub name_at : List (List ℕ) → ℕ → List ℕ
name_at names place = unwrap_or (slice_get names place) []

-- the names of the columns of the table at this place
abbrev pub column_names_at : Catalogue → ℕ → List (List ℕ)
column_names_at c place = option_map_or column_names (slice_get c.tables place) []

abbrev pub table_statement : Catalogue → TableDef → CatalogueStatement
table_statement c t =
    Table (record { name = t.name; site = name_at (site_names c) t.site.0; rows = t.rows; pages = t.pages; file = t.file; columns = t.columns })

abbrev pub index_statement : Catalogue → IndexDef → CatalogueStatement
index_statement c i =
    Index (record { name = i.name; table = name_at (table_names c) i.table; columns = map (name_at (column_names_at c i.table)) i.columns; pages = i.pages })

abbrev pub catalogue_statements : Catalogue → List CatalogueStatement
catalogue_statements c = map Site c.sites ++ (map (table_statement c) c.tables ++ map (index_statement c) c.indexes)

abbrev pub canonical : Catalogue → List ℕ
canonical c = layout (map catalogue_lexemes (catalogue_statements c))

-- ---- the relation

pub record SpellsCatalogue (text : List ℕ) (catalogue : Catalogue) : Type 0 where
  pub statements : List CatalogueStatement
  pub are : IsStatements text (map catalogue_lexemes statements)
  pub columns : Every HasColumns statements
  pub means : catalogue_of statements ≡ Some catalogue
