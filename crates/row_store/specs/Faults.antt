-- The faults that the records of a table's file may have, and what loading them answers.
use Rattle.std.specs.Prelude.{◌≡◌, ℕ, ◌+◌, ◌*◌, ◌<◌, ◌≤◌, ◌⊎◌, Bool, false, nat_eq, List, [], length, slice_get, Some, Result, Ok, Err}
use Rattle.std.specs.List.{list_all, position, count_by}
use Rattle.std.specs.Option.{is_none, option_map_or, IsSomeAnd}
use Rattle.sb_outside.specs.Records.{record_at}
use Rattle.star_model.specs.Vectors.{same_numbers}
use Rattle.star_model.specs.Data.{Record, header_of, place_in, field_at, value_in, table_rows}
use Rattle.star_model.specs.declared.catalogue.Catalogue.{Catalogue}
use Rattle.star_model.specs.declared.catalogue.TableDef.{TableDef}
use Rattle.star_model.specs.declared.catalogue.ColumnDef.{ColumnDef}
use Rattle.star_model.specs.declared.catalogue.Value.{Value}
use Rattle.row_store.specs.declared.fault.TableFault.{TableFault}
use Rattle.row_store.specs.declared.fault.TableFault.TheVariants.{BadHeader, TooManyRows, BadRow, BadField, Memory}

-- the column's name stands exactly once in the header
abbrev pub stands_once : Record → ColumnDef → Bool
stands_once header column = nat_eq (count_by (same_numbers column.name) header) 1

-- an integer column's field of this record is no integer
abbrev pub lacks_value : Record → Record → ColumnDef → Bool
lacks_value header fields column = option_map_or (λ place. is_none (value_in column.kind (field_at fields place))) (place_in header column.name) false

-- the row of this number: the rows are the records after the header, from 1
pub record IsRow (records : List Record) (row : ℕ) (fields : Record) : Type 0 where
  pub behind_header : 0 < row
  pub is : slice_get records row ≡ Some fields

abbrev pub header : List Record → Record
header records = header_of (record_at records 0)

module _ (t : TableDef) (records : List Record) where
  -- there is no header, or a column of the table doesn't stand exactly once in it
  abbrev pub HasBadHeader : Type 0
  HasBadHeader = (records ≡ []) ⊎ (list_all (stands_once (header records)) t.columns ≡ false)

  -- the row of this number has another count of fields than the header
  pub record IsBadRow (row : ℕ) : Type 0 where
    pub fields : Record
    pub is : IsRow records row fields
    pub count : length fields ≡ length (header records) → ⊥

  -- the row of this number has as many fields as the header, and this column, from 1, is the first that lacks a value
  pub record IsBadField (row column : ℕ) : Type 0 where
    pub fields : Record
    pub is : IsRow records row fields
    pub count : length fields ≡ length (header records)
    pub place : ℕ
    pub number : column ≡ place + 1
    pub first : position (lacks_value (header records) fields) t.columns ≡ Some place

  -- the records have this fault, whether or not they have others
  abbrev pub RecordsHave : TableFault → Type 0
  RecordsHave BadHeader = HasBadHeader
  RecordsHave TooManyRows = (fields : Record) × IsRow records 200001 fields
  RecordsHave (BadRow row) = IsBadRow row
  RecordsHave (BadField row column) = IsBadField row column
  RecordsHave Memory = ⊥

-- when a fault is seen in reading: the header's first; then row by row whether it is one too many, its count of fields, and its fields
abbrev pub seen_at : TableFault → ℕ
seen_at BadHeader = 0
seen_at TooManyRows = 3 * 200001
seen_at (BadRow row) = 3 * row + 1
seen_at (BadField row column) = 3 * row + 2
seen_at Memory = 0

-- the table of this number has this fault in these records
abbrev pub HasFault : Catalogue → ℕ → List Record → TableFault → Type 0
HasFault c n records fault = IsSomeAnd (slice_get c.tables n) (λ t. RecordsHave t records fault)

module _ (c : Catalogue) (n : ℕ) (records : List Record) where
  pub record IsFirstFault (fault : TableFault) : Type 0 where
    pub has : HasFault c n records fault
    pub first : (other : TableFault) → HasFault c n records other → seen_at fault ≤ seen_at other

  abbrev pub HasNoFault : Type 0
  HasNoFault = (fault : TableFault) → HasFault c n records fault → ⊥

  -- these are the rows, and there is no fault
  pub record AreLoaded (rows : List (List Value)) : Type 0 where
    pub rows_are : table_rows c n records ≡ Some rows
    pub clear : HasNoFault

  -- what loading a table answers; want of memory may come at any records
  abbrev pub Loads : Result (List (List Value)) TableFault → Type 0
  Loads (Ok rows) = AreLoaded rows
  Loads (Err Memory) = Unit {0}
  Loads (Err fault) = IsFirstFault fault
