-- The first fault of the rows, read record by record.
use Rattle.std.specs.Prelude.{ℕ, ◌+◌, Bool, nat_eq, nat_le, List, [], ◌∷◌, length, Option, Some, None, option_map, if◌then◌else◌}
use Rattle.std.specs.Option.{is_some, option_or}
use Rattle.star_model.specs.Limits.{most_rows}
use Rattle.star_model.specs.Data.{Record, field_at, value_in}
use Rattle.row_store.specs.declared.header.Column.{Column}
use Rattle.row_store.specs.declared.fault.TableFault.{TableFault}
use Rattle.row_store.specs.declared.fault.TableFault.TheVariants.{TooManyRows, BadRow, BadField}

-- whether a record has a value in the column
abbrev pub has_value : Record → Column → Bool
has_value fields column = is_some (value_in column.kind (field_at fields column.place))

-- the number of the first column without a value, where so many stand before these
abbrev pub bad_column : Record → ℕ → List Column → Option ℕ
bad_column fields before [] = None
bad_column fields before (column ∷ columns) = if has_value fields column then bad_column fields (before + 1) columns else Some (before + 1)

-- the first fault of the row of this number, where the header has so many fields
abbrev pub row_fault : List Column → ℕ → ℕ → Record → Option TableFault
row_fault columns count row fields = if nat_eq (length fields) count then option_map (BadField row) (bad_column fields 0 columns) else Some (BadRow row)

-- the first fault of rows, where so many stand before these
abbrev pub rows_fault : List Column → ℕ → ℕ → List Record → Option TableFault
rows_fault columns count before [] = None
rows_fault columns count before (fields ∷ rows) =
    if nat_le most_rows before then Some TooManyRows else option_or (row_fault columns count (before + 1) fields) (rows_fault columns count (before + 1) rows)
