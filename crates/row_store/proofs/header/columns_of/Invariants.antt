use Rattle.std.proofs.Common.{◌≡◌, ◌<◌, length, map, take, Some}
use Rattle.std.specs.Prelude.{All}
use Rattle.star_model.specs.Data.{all_of, header_of}
use Rattle.sb_outside.specs.Records.{record_at}
use Rattle.row_store.specs.Columns.{column_in}
use Rattle.row_store.proofs.header.columns_of.Given as goal

abbrev pub invariant-loop-column : goal.invariant-loop-column
invariant-loop-column l = record {
  found : all_of (map (column_in (header_of (record_at l.raw 0))) (take l.column-index l.definition.columns)) ≡ Some l.columns.items;
  in_range : All (λ column. column.place < length (record_at l.raw 0)) l.columns.items;
  count : length l.columns.items ≡ l.column-index;
}
