-- What the taking of a query's tables answers.
use Rattle.std.specs.Prelude.{◌≡◌, ◌≤◌, ◌+◌, ◌⊎◌, ℕ, true, List, take, slice_get, Some, Contains, IsSome, IsSomeAnd, Result, Ok, Err, string_bytes}
use Rattle.sb_outside.specs.Counts.{RoseBy}
use Rattle.sb_outside.specs.Records.{Records}
use Rattle.sb_outside.specs.Shelf.{ShelfState, FailsAt, NoFault, TellsMore, TellsRecords}
use Rattle.star_model.specs.declared.catalogue.Value.{Value}
use Rattle.star_model.specs.declared.query.Query.{Query}
use Rattle.row_store.specs.Faults.{IsFirstFault}
use Rattle.row_store.specs.declared.fault.TableFault.{TableFault}
use Rattle.row_steps.specs.LoadedTables.{data_of}
use Rattle.row_steps.specs.declared.tables.Tables.{Tables}
use Rattle.table_taking.specs.Limits.{most_table_bytes}
use Rattle.table_taking.specs.QueryTables.{tables_of, name_of, file_of, HasRows, AreRows}
use Rattle.table_taking.specs.Lines.{fault_line, long_line, cannot_read}
use Rattle.table_taking.specs.declared.stop.Stop.{Stop}
use Rattle.table_taking.specs.declared.stop.Stop.TheVariants.{Unread, Refused, Memory}

module _ (query : Query) where
  -- each table of the query is loaded
  abbrev pub HasTables : Tables → Type 0
  HasTables tables =
      (n : ℕ) → Contains (tables_of query) n → IsSomeAnd (slice_get tables.loaded n) IsSome

  module _ (before now : ShelfState) where
    -- the table at this place, of this number, was asked for, and those before it have rows
    pub record CameTo (place n : ℕ) : Type 0 where
      pub here : slice_get (tables_of query) place ≡ Some n
      pub earlier : (m : ℕ) → Contains (take place (tables_of query)) m
          → (rows : List (List Value)) × HasRows query before.held m rows
      pub calls : now.calls ≤ before.calls + (place + 1)

    -- the file of this table is too long
    pub record IsLong (n : ℕ) (line : List ℕ) : Type 0 where
      pub more : TellsMore before.held (file_of query n) most_table_bytes
      pub taken : RoseBy (most_table_bytes + 1) before.taken now.taken
      pub tells : line ≡ long_line (name_of query n)

    -- the records of its file have a fault, and the line tells the first
    pub record IsFaulty (n : ℕ) (line : List ℕ) : Type 0 where
      pub records : Records
      pub held : TellsRecords before.held (file_of query n) most_table_bytes records
      pub fault : TableFault
      pub first : IsFirstFault query.catalogue n records fault
      pub tells : fault_line (name_of query n) fault ≡ Some line

    -- The shelf failed at the file of the table at some place, and the line names it; those before
    -- it have rows.
    abbrev pub UnreadAt : List ℕ → Type 0
    UnreadAt line =
        (place : ℕ) × (n : ℕ) × CameTo place n × FailsAt before now (true, file_of query n)
        × (line ≡ cannot_read (file_of query n))

    -- The table at some place is refused with this line, and those before it have rows.
    abbrev pub RefusedAt : List ℕ → Type 0
    RefusedAt line =
        NoFault before now × (place : ℕ) × (n : ℕ) × CameTo place n
        × (IsLong n line ⊎ IsFaulty n line)

    abbrev pub StoppedBy : Stop → Type 0
    StoppedBy (Unread line) = UnreadAt (string_bytes line)
    StoppedBy (Refused line) = RefusedAt (string_bytes line)
    StoppedBy Memory = Unit {0}

    -- all tables were read and hold rows, or the first that doesn't
    abbrev pub TablesTaken : Result Tables Stop → Type 0
    TablesTaken (Ok tables) =
        NoFault before now × HasTables tables × AreRows query before.held (data_of tables)
    TablesTaken (Err stop) = StoppedBy stop
