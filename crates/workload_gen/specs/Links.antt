-- What holds of the tables of each workload.
use Rattle.std.specs.Prelude.{◌≡◌, ◌<◌, ◌≤◌, ℕ, List, [], ◌∷◌, length}
use Rattle.star_model.specs.Every.{Every}
use Rattle.workload_gen.specs.declared.tables.DrawnTable.{DrawnTable}

-- The table is of the stated sizes, and each of its rows refers to a row of the table before, which has so many; where it is the
-- first, to row 0 of one.
pub record IsLinked (rows_before : ℕ) (table : DrawnTable) : Type 0 where
  pub rows : (5 ≤ table.rows) × (table.rows ≤ 19)
  pub pages : (1 ≤ table.pages) × (table.pages ≤ 4)
  pub before : table.rows_before ≡ rows_before
  pub each_row : length table.prevs ≡ table.rows
  pub to_a_row : Every (λ prev. prev < rows_before) table.prevs

-- the tables from one behind a table of so many rows
abbrev pub AreLinked : ℕ → List DrawnTable → Type 0
AreLinked rows_before [] = Unit {0}
AreLinked rows_before (table ∷ later) = IsLinked rows_before table × AreLinked table.rows later
