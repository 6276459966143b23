-- What the number of a record says of a table's vectors.
use Rattle.std.proofs.Common.{◌≡◌, ◌+◌, ◌-◌, ◌<◌, ◌≤◌, ℕ, [], ◌∷◌, length, get_or, ap, arith}
use Rattle.sb_outside.specs.Records.{Records}
use Rattle.sb_outside.specs.RawTable.{fields_in, records_in, IsCut}
use Rattle.sb_outside.specs.declared.raw_table.RawTable.TheInside.{Inside}
use Rattle.sb_outside.proofs.Pieces.{length_pieces, length_piece, places, item_at}

pub record HasRecord (table : Inside) (records : Records) (number : ℕ) : Type 0 where
  pub in_range : number < length table.record_ends.items
  pub in_order : get_or (0 ∷ table.record_ends.items) number 0 ≤ get_or table.record_ends.items number 0
  pub within : get_or table.record_ends.items number 0 ≤ length table.field_ends.items
  pub size : length (get_or records number []) ≡ get_or table.record_ends.items number 0 - get_or (0 ∷ table.record_ends.items) number 0
  pub field : (place : ℕ) → place < length (get_or records number [])
      → get_or (get_or records number []) place [] ≡ get_or (fields_in table) (get_or (0 ∷ table.record_ends.items) number 0 + place) []

pub has_record : (table : Inside) (records : Records) (number : ℕ) → IsCut table → records_in table ≡ records → number < length records → HasRecord table records number
has_record table records number cut view lt =
    let ends = table.record_ends.items in
    let fields = fields_in table in
    let count = length_pieces 0 table.field_ends.items table.bytes.items in
    let are = rw (← count) at cut.records in
    let in_range : number < length ends = omega (arith, length_pieces 0 ends fields, ap length view) in
    let at = places 0 ends (length table.field_ends.items) number cut.records in_range in
    record {
      in_range = in_range;
      in_order = at.0;
      within = at.1;
      size = rw (← view) (length_piece 0 ends fields number are in_range);
      field = rw (← view) (λ place within. item_at 0 ends fields number place [] are in_range within);
    }
