-- What the statements of a catalogue define, when one names what none before it defines, and when one defines a name twice.
use Rattle.std.specs.Prelude.{ℕ, Bool, false, not, ◌||◌, IsTrue, List, [], ◌∷◌, ◌++◌, map, if◌then◌else◌}
use Rattle.std.specs.List.{list_all}
use Rattle.star_model.specs.Vectors.{same_numbers}
use Rattle.star_model.specs.WellFormed.{differ}
use Rattle.star_model.specs.declared.catalogue.ColumnDef.{ColumnDef}
use Rattle.star_model.specs.Names.{is_among}
use Rattle.catalogue.specs.Catalogues.{CatalogueStatement, Site, Table, Index}

-- ---- what is defined

-- the names of the sites
abbrev pub sites_in : List CatalogueStatement → List (List ℕ)
sites_in [] = []
sites_in (Site s ∷ later) = s.name ∷ sites_in later
sites_in (Table t ∷ later) = sites_in later
sites_in (Index i ∷ later) = sites_in later

-- the names of the tables
abbrev pub tables_in : List CatalogueStatement → List (List ℕ)
tables_in [] = []
tables_in (Site s ∷ later) = tables_in later
tables_in (Table t ∷ later) = t.name ∷ tables_in later
tables_in (Index i ∷ later) = tables_in later

-- the names of the indexes
abbrev pub indexes_in : List CatalogueStatement → List (List ℕ)
indexes_in [] = []
indexes_in (Site s ∷ later) = indexes_in later
indexes_in (Table t ∷ later) = indexes_in later
indexes_in (Index i ∷ later) = i.name ∷ indexes_in later

abbrev pub names_of : List ColumnDef → List (List ℕ)
names_of columns = map (λ c. c.name) columns

-- the names of the columns of the tables of this name
abbrev pub columns_in : List ℕ → List CatalogueStatement → List (List ℕ)
columns_in table [] = []
columns_in table (Site s ∷ later) = columns_in table later
columns_in table (Table t ∷ later) = if same_numbers table t.name then names_of t.columns ++ columns_in table later else columns_in table later
columns_in table (Index i ∷ later) = columns_in table later

-- ---- names that aren't known, and names that are defined twice

-- Of an index, a column is known where any table of this name has it.
abbrev pub names_unknown : List CatalogueStatement → CatalogueStatement → Bool
names_unknown earlier (Site s) = false
names_unknown earlier (Table t) = not (is_among (sites_in earlier) t.site)
names_unknown earlier (Index i) = not (is_among (tables_in earlier) i.table) || not (list_all (is_among (columns_in i.table earlier)) i.columns)

-- its name is that of an earlier site, table or index, as it is one itself
abbrev pub is_defined : List CatalogueStatement → CatalogueStatement → Bool
is_defined earlier (Site s) = is_among (sites_in earlier) s.name
is_defined earlier (Table t) = is_among (tables_in earlier) t.name
is_defined earlier (Index i) = is_among (indexes_in earlier) i.name

abbrev pub has_column_twice : CatalogueStatement → Bool
has_column_twice (Site s) = false
has_column_twice (Table t) = not (differ same_numbers (names_of t.columns))
has_column_twice (Index i) = not (differ same_numbers i.columns)

-- the statement names a site, a table or a column that no earlier one defines
abbrev pub NamesUnknown : List CatalogueStatement → CatalogueStatement → Type 0
NamesUnknown earlier statement = IsTrue (names_unknown earlier statement)

-- The statement defines a site, a table or an index of a name that an earlier one defines, or two columns of one name; or it is an
-- index with a column twice.
abbrev pub DefinesTwice : List CatalogueStatement → CatalogueStatement → Type 0
DefinesTwice earlier statement = IsTrue (is_defined earlier statement || has_column_twice statement)
