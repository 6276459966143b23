-- The limits of a statement as tests, in their order.
use Rattle.std.specs.Prelude.{◌≡◌, ℕ, Bool, ◌||◌, ◌&&◌, not, nat_lt, nat_le, List, length, Option, Some, None, if◌then◌else◌}
use Rattle.std.specs.List.{list_any}
use Rattle.std.specs.Str.{is_utf8}
use Rattle.star_model.specs.Limits.{most_columns, most_file_bytes, most_index_columns, most_indexes, most_name_bytes, most_sites, most_tables}
use Rattle.star_model.specs.Numbers.{top}
use Rattle.star_model.specs.declared.faults.LimitKind.{LimitKind}
use Rattle.star_model.specs.declared.faults.LimitKind.TheVariants as limit
use Rattle.star_model.specs.declared.catalogue.ColumnDef.{ColumnDef}
use Rattle.catalogue.specs.declared.limits.Counts.{Counts}
use Rattle.catalogue.specs.Catalogues.{CatalogueStatement, Site, Table, Index}
use Rattle.catalogue.specs.Defined.{sites_in, tables_in, indexes_in}

abbrev pub is_great : ℕ → Bool
is_great n = nat_lt top n

abbrev pub is_great_column : ColumnDef → Bool
is_great_column c = is_great c.width || is_great c.distinct

abbrev pub has_great_number : CatalogueStatement → Bool
has_great_number (Site s) = is_great s.cpu || is_great s.net
has_great_number (Table t) = is_great t.rows || is_great t.pages || list_any is_great_column t.columns
has_great_number (Index i) = is_great i.pages

abbrev pub is_long : List ℕ → Bool
is_long name = nat_lt most_name_bytes (length name)

abbrev pub is_long_column : ColumnDef → Bool
is_long_column c = is_long c.name

abbrev pub has_long_name : CatalogueStatement → Bool
has_long_name (Site s) = is_long s.name
has_long_name (Table t) = is_long t.name || is_long t.site || list_any is_long_column t.columns
has_long_name (Index i) = is_long i.name || is_long i.table || list_any is_long i.columns

abbrev pub is_file_name : List ℕ → Bool
is_file_name name = nat_lt 0 (length name) && nat_le (length name) most_file_bytes && is_utf8 name

-- the first limit, of those that only such a statement has
abbrev pub kind_limit : Counts → CatalogueStatement → Option LimitKind
kind_limit before (Site s) = if nat_le most_sites before.sites then Some limit.Sites else None
kind_limit before (Table t) =
    if not (is_file_name t.file) then Some limit.File
    else if nat_le most_tables before.tables then Some limit.Tables
    else if nat_lt most_columns (length t.columns) then Some limit.Columns
    else None
kind_limit before (Index i) =
    if nat_le most_indexes before.indexes then Some limit.Indexes else if nat_lt most_index_columns (length i.columns) then Some limit.IndexColumns else None

-- the first limit that the statement goes beyond
abbrev pub limit_beyond : Counts → CatalogueStatement → Option LimitKind
limit_beyond before statement =
    if has_great_number statement then Some limit.Number else if has_long_name statement then Some limit.Name else kind_limit before statement

-- these are the numbers of sites, tables and indexes that the statements define
pub record Counted (counts : Counts) (earlier : List CatalogueStatement) : Type 0 where
  pub sites : counts.sites ≡ length (sites_in earlier)
  pub tables : counts.tables ≡ length (tables_in earlier)
  pub indexes : counts.indexes ≡ length (indexes_in earlier)
