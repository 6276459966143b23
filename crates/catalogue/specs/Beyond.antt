-- Which limits a statement of a catalogue goes beyond, behind those before it.
use Rattle.std.specs.Prelude.{ℕ, ◌<◌, ◌≤◌, List, length, IsUtf8}
use Rattle.star_model.specs.Limits.{most_columns, most_file_bytes, most_index_columns, most_indexes, most_sites, most_tables}
use Rattle.star_model.specs.declared.faults.LimitKind.{LimitKind}
use Rattle.star_model.specs.declared.faults.LimitKind.TheVariants as limit
use Rattle.spelling.specs.Limits.{HasGreatNumber, HasLongWord, IsFirstBeyond}
use Rattle.catalogue.specs.Catalogues.{CatalogueStatement, Site, Table, Index, catalogue_lexemes}
use Rattle.catalogue.specs.Defined.{sites_in, tables_in, indexes_in}

-- a name that a file may have: 1 to 255 bytes of UTF-8
pub record IsFileName (name : List ℕ) : Type 0 where
  pub some : 0 < length name
  pub few : length name ≤ most_file_bytes
  pub utf8 : IsUtf8 name

-- A number is over the greatest, a name over 64 bytes, a file has no name that it may have; this is the ninth site or a later one,
-- the 33rd table, the 65th index; the table has over 32 columns, or the index over 8.
abbrev pub Beyond : List CatalogueStatement → CatalogueStatement → LimitKind → Type 0
Beyond earlier statement limit.Number = HasGreatNumber (catalogue_lexemes statement)
Beyond earlier statement limit.Name = HasLongWord (catalogue_lexemes statement)
Beyond earlier (Table t) limit.File = IsFileName t.file → ⊥
Beyond earlier (Site s) limit.Sites = most_sites ≤ length (sites_in earlier)
Beyond earlier (Table t) limit.Tables = most_tables ≤ length (tables_in earlier)
Beyond earlier (Table t) limit.Columns = most_columns < length t.columns
Beyond earlier (Index i) limit.Indexes = most_indexes ≤ length (indexes_in earlier)
Beyond earlier (Index i) limit.IndexColumns = most_index_columns < length i.columns
Beyond earlier statement _ = ⊥

-- the first limit that it goes beyond is this one
abbrev pub BeyondFirst : LimitKind → List CatalogueStatement → CatalogueStatement → Type 0
BeyondFirst what earlier statement = IsFirstBeyond (Beyond earlier statement) what

abbrev pub IsBeyond : List CatalogueStatement → CatalogueStatement → Type 0
IsBeyond earlier statement = (what : LimitKind) × Beyond earlier statement what
