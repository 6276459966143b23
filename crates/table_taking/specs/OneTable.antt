-- What the taking of one table answers.
use Rattle.std.specs.Prelude.{◌≡◌, ◌⊎◌, ℕ, true, List, Some, Result, Ok, Err, string_bytes}
use Rattle.sb_outside.specs.Records.{Records}
use Rattle.sb_outside.specs.Shelf.{ShelfState, FailsAt, NoFault}
use Rattle.star_model.specs.Data.{table_rows}
use Rattle.star_model.specs.declared.catalogue.Value.{Value}
use Rattle.star_model.specs.declared.query.Query.{Query}
use Rattle.row_store.specs.Faults.{IsFirstFault}
use Rattle.row_store.specs.declared.fault.TableFault.{TableFault}
use Rattle.table_taking.specs.QueryTables.{name_of, file_of, HasRows}
use Rattle.table_taking.specs.Lines.{fault_line, cannot_read}
use Rattle.table_taking.specs.Taking.{IsLong, IsFaulty}
use Rattle.table_taking.specs.declared.stop.Stop.{Stop}
use Rattle.table_taking.specs.declared.stop.Stop.TheVariants.{Unread, Refused, Memory}

module _ (query : Query) (n : ℕ) (records : Records) where
  -- the records have a fault, and the line tells the first
  pub record TellsFault (line : List ℕ) : Type 0 where
    pub fault : TableFault
    pub first : IsFirstFault query.catalogue n records fault
    pub tells : fault_line (name_of query n) fault ≡ Some line

  abbrev pub NotLoaded : Stop → Type 0
  NotLoaded (Unread line) = ⊥
  NotLoaded (Refused line) = TellsFault (string_bytes line)
  NotLoaded Memory = Unit {0}

  -- the table was loaded from these records, or why not
  abbrev pub TableLoaded : Result (List (List Value)) Stop → Type 0
  TableLoaded (Ok rows) = table_rows query.catalogue n records ≡ Some rows
  TableLoaded (Err stop) = NotLoaded stop

module _ (query : Query) (before now : ShelfState) (n : ℕ) where
  abbrev pub NotTaken : Stop → Type 0
  NotTaken (Unread line) =
      FailsAt before now (true, file_of query n)
      × (string_bytes line ≡ cannot_read (file_of query n))
  NotTaken (Refused line) =
      NoFault before now
      × (IsLong query before now n (string_bytes line)
      ⊎ IsFaulty query before now n (string_bytes line))
  NotTaken Memory = Unit {0}

  -- the table was read and has these rows, or why not
  abbrev pub TableTaken : Result (List (List Value)) Stop → Type 0
  TableTaken (Ok rows) = NoFault before now × HasRows query before.held n rows
  TableTaken (Err stop) = NotTaken stop
