-- A table of records in three vectors: all bytes, where each field ends, and where each record ends among the fields.
use Rattle.std.specs.Prelude.{ℕ, List, length}
use Rattle.sb_outside.specs.Pieces.{pieces, AreEnds}
use Rattle.sb_outside.specs.Records.{Records}
use Rattle.sb_outside.specs.declared.raw_table.RawTable.TheInside.{Inside}

-- the fields of all records
abbrev pub fields_in : Inside → List (List ℕ)
fields_in table = pieces 0 table.field_ends.items table.bytes.items

abbrev pub records_in : Inside → Records
records_in table = pieces 0 table.record_ends.items (fields_in table)

pub record IsCut (table : Inside) : Type 0 where
  pub fields : AreEnds 0 table.field_ends.items (length table.bytes.items)
  pub records : AreEnds 0 table.record_ends.items (length table.field_ends.items)
