-- The rows of the tables that are drawn refer to rows of the tables before.
use Rattle.std.proofs.Common.{◌≡◌, ℕ, zero, suc, ◌<◌, ◌≤◌, length, replicate, Option, None, Some, refl, ap, arith}
use Rattle.std.specs.Prelude.{unwrap_or}
use Rattle.std.specs.Option.{ForSome}
use Rattle.std.proofs.lemmas.List.{length-replicate}
use Rattle.star_model.specs.Every.{Every}
use Rattle.workload_gen.specs.Draws.{state_of_seed, next_state, drawn, state_after, numbers_from}
use Rattle.workload_gen.specs.Tables.{rows_at, prevs_at, table_at, state_behind, tables_from, drawn_tables}
use Rattle.workload_gen.specs.Links.{IsLinked, AreLinked}

pub drawn_below : (choices state : ℕ) → 0 < choices → drawn choices state < choices
unfolding drawn
drawn_below choices state some = omega arith

length-numbers : (count choices state : ℕ) → length (numbers_from count choices state) ≡ count
length-numbers zero choices state = refl
length-numbers (suc count) choices state = ap suc (length-numbers count choices (next_state state))

numbers_below : (count choices state : ℕ) → 0 < choices → Every (λ n. n < choices) (numbers_from count choices state)
numbers_below zero choices state some = tt
numbers_below (suc count) choices state some = (drawn_below choices state some, numbers_below count choices (next_state state) some)

zeros_below : (count : ℕ) → Every (λ n. n < 1) (replicate count 0)
zeros_below zero = tt
zeros_below (suc count) = (omega arith, zeros_below count)

length-prevs : (before : Option ℕ) (rows state : ℕ) → length (prevs_at before rows state) ≡ rows
length-prevs None rows state = length-replicate rows 0
length-prevs (Some rows_before) rows state = length-numbers rows rows_before state

prevs_below : (before : Option ℕ) (rows state : ℕ) → ForSome before (λ n. 0 < n) → Every (λ n. n < unwrap_or before 1) (prevs_at before rows state)
prevs_below None rows state some = zeros_below rows
prevs_below (Some rows_before) rows state some = numbers_below rows rows_before state (some rows_before refl)

rows_between : (state : ℕ) → (5 ≤ rows_at state) × (rows_at state ≤ 19)
unfolding rows_at
rows_between state = let below = drawn_below 15 state (omega arith) in (omega arith, omega arith)

linked : (before : Option ℕ) (state : ℕ) → ForSome before (λ n. 0 < n) → IsLinked (unwrap_or before 1) (table_at before state)
linked before state some =
    let below = drawn_below 4 (next_state state) (omega arith) in
    record {
      rows = rows_between state;
      pages = (omega arith, omega arith);
      before = refl;
      each_row = length-prevs before (rows_at state) (state_after 3 state);
      to_a_row = prevs_below before (rows_at state) (state_after 3 state) some;
    }

some_rows : (rows : ℕ) → 5 ≤ rows → ForSome (Some rows) (λ n. 0 < n)
some_rows rows many n is = let same : rows ≡ n = cc in omega arith

all_linked : (count : ℕ) (before : Option ℕ) (state : ℕ) → ForSome before (λ n. 0 < n) → AreLinked (unwrap_or before 1) (tables_from count before state)
all_linked zero before state some = tt
all_linked (suc count) before state some =
    (linked before state some, all_linked count (Some (rows_at state)) (state_behind before state) (some_rows (rows_at state) (rows_between state).0))

-- each row of a workload's table refers to a row of the table before
pub tables_linked : (seed size : ℕ) → AreLinked 1 (drawn_tables seed size)
unfolding drawn_tables
tables_linked seed size = all_linked size None (state_of_seed seed) (λ n is. cc)

length-tables_from : (count : ℕ) (before : Option ℕ) (state : ℕ) → length (tables_from count before state) ≡ count
length-tables_from zero before state = refl
length-tables_from (suc count) before state = ap suc (length-tables_from count (Some (rows_at state)) (state_behind before state))

-- a workload has as many tables as its size says
pub tables_count : (seed size : ℕ) → length (drawn_tables seed size) ≡ size
unfolding drawn_tables
tables_count seed size = length-tables_from size None (state_of_seed seed)
