-- What the opening of a table finds in its records: the rows, or the fault that is read first.
use Rattle.std.specs.Prelude.{◌≡◌, List, [], ◌∷◌, length, map, Option, Some, None, Result, Ok, Err, pos, unwrap_or}
use Rattle.std.specs.Option.{option_map_or}
use Rattle.star_model.specs.Data.{Record, header_of, field_at, value_in}
use Rattle.star_model.specs.declared.catalogue.TableDef.{TableDef}
use Rattle.star_model.specs.declared.catalogue.Value.{Value}
use Rattle.star_model.specs.declared.catalogue.Value.TheVariants as constant
use Rattle.row_store.specs.declared.header.Column.{Column}
use Rattle.row_store.specs.declared.fault.TableFault.{TableFault}
use Rattle.row_store.specs.declared.fault.TableFault.TheVariants.{BadHeader, Memory}
use Rattle.row_store.specs.Columns.{columns_in}
use Rattle.row_store.specs.Reading.{rows_fault}

-- the value of a record in a column
abbrev pub column_value : Record → Column → Option Value
column_value fields column = value_in column.kind (field_at fields column.place)

-- the rows, where each has a value in each column
abbrev pub rows_with : List Column → List Record → List (List Value)
rows_with columns rows = map (λ fields. map (λ column. unwrap_or (column_value fields column) (constant.Int (pos 0))) columns) rows

-- the fault that is read first
abbrev pub first_fault : TableDef → List Record → Option TableFault
first_fault t [] = Some BadHeader
first_fault t (header ∷ rows) = option_map_or (λ columns. rows_fault columns (length header) 0 rows) (columns_in (header_of header) t) (Some BadHeader)

-- the rows of records without a fault
pub record IsRowsOf (t : TableDef) (records : List Record) (rows : List (List Value)) : Type 0 where
  pub clear : first_fault t records ≡ None
  pub columns : List Column
  pub header : Record
  pub behind : List Record
  pub are : records ≡ header ∷ behind
  pub in_header : columns_in (header_of header) t ≡ Some columns
  pub rows_are : rows ≡ rows_with columns behind

-- what opening a table answers
abbrev pub Opens : TableDef → List Record → Result (List (List Value)) TableFault → Type 0
Opens t records (Ok rows) = IsRowsOf t records rows
Opens t records (Err Memory) = Unit {0}
Opens t records (Err fault) = first_fault t records ≡ Some fault
