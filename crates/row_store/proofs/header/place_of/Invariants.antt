use Rattle.std.proofs.Common.{take}
use Rattle.star_model.specs.Vectors.{same_numbers}
use Rattle.star_model.specs.Data.{header_of}
use Rattle.sb_outside.specs.Records.{record_at}
use Rattle.row_store.proofs.Places.{IsSoFar}
use Rattle.row_store.proofs.header.place_of.Given as goal

abbrev pub invariant-loop-field_no : goal.invariant-loop-field_no
invariant-loop-field_no l = IsSoFar (same_numbers l.name) (take l.field_no (header_of (record_at l.raw 0))) l.place
