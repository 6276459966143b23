-- When a statement can be added to a catalogue.
use Rattle.std.specs.Prelude.{◌≡◌, ◌≤◌, false, IsSome, List, length, map, slice_get, Option, Some}
use Rattle.star_model.specs.Limits.{most_columns, most_index_columns, most_sites, most_tables}
use Rattle.star_model.specs.declared.catalogue.Catalogue.{Catalogue}
use Rattle.star_model.specs.declared.catalogue.TableDef.{TableDef}
use Rattle.star_model.specs.declared.catalogue.IndexDef.{IndexDef}
use Rattle.star_model.specs.Every.{Every}
use Rattle.star_model.specs.Names.{place_of}
use Rattle.spelling.specs.Names.{all_of, ◌>>=◌}
use Rattle.catalogue.specs.Catalogues.{CatalogueStatement, Site, Table, Index, IndexPart, column_names, with_statement}
use Rattle.catalogue.specs.LimitTests.{has_great_number}

abbrev pub IsNarrow : TableDef → Type 0
IsNarrow t = length t.columns ≤ most_columns

-- its places are few
pub record IsSmall (c : Catalogue) : Type 0 where
  pub sites : length c.sites ≤ most_sites
  pub tables : length c.tables ≤ most_tables
  pub columns : Every IsNarrow c.tables

abbrev pub HasFewColumns : CatalogueStatement → Type 0
HasFewColumns (Site s) = Unit {0}
HasFewColumns (Table t) = length t.columns ≤ most_columns
HasFewColumns (Index i) = length i.columns ≤ most_index_columns

-- it names what is defined, and its numbers and counts are within their limits
pub record CanBeAdded (c : Catalogue) (x : CatalogueStatement) : Type 0 where
  pub known : IsSome (with_statement c x)
  pub small : IsSmall c
  pub numbers : has_great_number x ≡ false
  pub columns : HasFewColumns x

-- the index with the positions of its table and of its columns; none where they aren't defined
abbrev pub resolved_index : List TableDef → IndexPart → Option IndexDef
resolved_index tables i = do
  place ← place_of i.table (map (λ t. t.name) tables)
  table ← slice_get tables place
  columns ← all_of (map (λ name. place_of name (column_names table)) i.columns)
  Some (record { name = i.name; table = place; columns = columns; pages = i.pages })
