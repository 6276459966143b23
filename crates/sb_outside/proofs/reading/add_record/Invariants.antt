use Rattle.std.proofs.Common.{◌≡◌, [], ◌∷◌, ◌++◌, take}
use Rattle.csv.specs.Records.{fields_of}
use Rattle.sb_outside.proofs.reading.add_record.Given as goal

abbrev pub invariant-loop-field : goal.invariant-loop-field
invariant-loop-field l = (l.field-iterator.row.now ≡ l.row) × (l.table ≡ l.fn.table ++ take l.field-iterator.at (fields_of l.row) ∷ [])
