-- A table: its records, where its columns stand in them, and its integers.
use Rattle.std.specs.Prelude.{◌≡◌, ℕ, ◌<◌, ◌≤◌, List, length, map, drop, All, Some}
use Rattle.star_model.specs.Limits.{most_columns}
use Rattle.star_model.specs.declared.catalogue.Value.{Value}
use Rattle.sb_outside.specs.Records.{record_at}
use Rattle.row_store.specs.declared.table.Table.TheInside.{Inside}
use Rattle.row_store.specs.Numbers.{integers_in}
use Rattle.row_store.specs.Loading.{rows_with}

abbrev pub rows_in : Inside → List (List Value)
rows_in table = rows_with table.columns.items (drop 1 table.raw)

pub record IsLoaded (table : Inside) : Type 0 where
  pub header : 0 < length table.raw
  pub few_rows : length table.raw ≤ 200001
  pub few_columns : length table.columns.items ≤ most_columns
  pub in_range : All (λ column. column.place < length (record_at table.raw 0)) table.columns.items
  pub lengths : (row : ℕ) → row < length table.raw → length (record_at table.raw row) ≡ length (record_at table.raw 0)
  pub numbers : map (λ integers. map (λ integer. Some integer) integers.items) table.numbers.items ≡ map (integers_in (drop 1 table.raw)) table.columns.items
