-- What is drawn for the tables of a workload, one table after the other.
use Rattle.std.specs.Prelude.{ℕ, zero, suc, ◌+◌, ◌==◌, List, [], ◌∷◌, Option, None, Some, unwrap_or, replicate}
use Rattle.workload_gen.specs.declared.tables.DrawnTable.{DrawnTable}
use Rattle.workload_gen.specs.Draws.{state_of_seed, next_state, drawn, state_after, numbers_from}

-- how many rows the table has whose drawing begins at this state
unfoldable pub rows_at : ℕ → ℕ
rows_at state = 5 + drawn 15 state

-- to which row of the table before each of so many rows refers, at the state behind what else is drawn of its table; those of the
-- first table are 0 and not drawn
abbrev pub prevs_at : Option ℕ → ℕ → ℕ → List ℕ
prevs_at None rows state = replicate rows 0
prevs_at (Some rows_before) rows state = numbers_from rows rows_before state

-- the state behind these
abbrev pub state_behind_prevs : Option ℕ → ℕ → ℕ → ℕ
state_behind_prevs None rows state = state
state_behind_prevs (Some rows_before) rows state = state_after rows state

-- the table that is drawn at a state, behind one of so many rows where it isn't the first: its rows, its pages, whether it has an index,
-- and then to which rows its own refer
abbrev pub table_at : Option ℕ → ℕ → DrawnTable
table_at before state = record {
  rows = rows_at state;
  pages = 1 + drawn 4 (next_state state);
  is_indexed = drawn 2 (state_after 2 state) == 1;
  rows_before = unwrap_or before 1;
  prevs = prevs_at before (rows_at state) (state_after 3 state);
}

-- the state behind that table
abbrev pub state_behind : Option ℕ → ℕ → ℕ
state_behind before state = state_behind_prevs before (rows_at state) (state_after 3 state)

-- so many tables, from one behind a table of so many rows, or from the first
abbrev pub tables_from : ℕ → Option ℕ → ℕ → List DrawnTable
tables_from zero before state = []
tables_from (suc count) before state = table_at before state ∷ tables_from count (Some (rows_at state)) (state_behind before state)

-- the tables of a seed
unfoldable pub drawn_tables : ℕ → ℕ → List DrawnTable
drawn_tables seed size = tables_from size None (state_of_seed seed)
