-- The columns of a table: their kinds and their places in the header.
use Rattle.std.specs.Prelude.{List, map, Option, option_map}
use Rattle.star_model.specs.Data.{Record, all_of, place_in}
use Rattle.star_model.specs.declared.catalogue.TableDef.{TableDef}
use Rattle.star_model.specs.declared.catalogue.ColumnDef.{ColumnDef}
use Rattle.row_store.specs.declared.header.Column.{Column}

-- a column, if its name stands once in the header
abbrev pub column_in : Record → ColumnDef → Option Column
column_in header column = option_map (λ place. record { kind = column.kind; place = place }) (place_in header column.name)

-- all columns of the table, if each of their names does
abbrev pub columns_in : Record → TableDef → Option (List Column)
columns_in header t = all_of (map (column_in header) t.columns)
