-- Tables whose files are told.
use Rattle.std.specs.Prelude.{◌≡◌, ◌≤◌, ◌<◌, ◌⊎◌, ℕ, List, length, take, slice_get, Some, Contains}
use Rattle.sb_outside.specs.Records.{records_of}
use Rattle.sb_outside.specs.Shelf.{Files}
use Rattle.star_model.specs.Data.{table_rows}
use Rattle.star_model.specs.declared.catalogue.Value.{Value}
use Rattle.star_model.specs.declared.query.Query.{Query}
use Rattle.row_store.specs.Faults.{IsFirstFault}
use Rattle.row_store.specs.declared.fault.TableFault.{TableFault}
use Rattle.table_taking.specs.Limits.{most_table_bytes}
use Rattle.table_taking.specs.QueryTables.{tables_of, name_of, file_of}
use Rattle.table_taking.specs.Lines.{fault_line, long_line}

module _ (query : Query) (files : Files) where
  -- the table's file is held, is within the limit, and holds rows
  pub record HoldsTable (n : ℕ) : Type 0 where
    pub bytes : List ℕ
    pub held : files (file_of query n) ≡ Some bytes
    pub within : length bytes ≤ most_table_bytes
    pub rows : List (List Value)
    pub are : table_rows query.catalogue n (records_of bytes) ≡ Some rows

  -- each table of the query is so
  abbrev pub HoldsTables : Type 0
  HoldsTables = (n : ℕ) → Contains (tables_of query) n → HoldsTable n

  -- these bytes of the table's file have a fault, and the line tells the first
  pub record HaveFault (n : ℕ) (bytes line : List ℕ) : Type 0 where
    pub within : length bytes ≤ most_table_bytes
    pub fault : TableFault
    pub first : IsFirstFault query.catalogue n (records_of bytes) fault
    pub tells : fault_line (name_of query n) fault ≡ Some line

  -- the table at this place is the first that doesn't hold rows, and the line tells why
  pub record FirstRefused (place : ℕ) (line : List ℕ) : Type 0 where
    pub n : ℕ
    pub here : slice_get (tables_of query) place ≡ Some n
    pub earlier : (m : ℕ) → Contains (take place (tables_of query)) m → HoldsTable m
    pub bytes : List ℕ
    pub held : files (file_of query n) ≡ Some bytes
    pub why : ((most_table_bytes < length bytes) × (line ≡ long_line (name_of query n)))
        ⊎ HaveFault n bytes line
