-- Tables that are drawn one after the other: those that are left complete the whole.
use Rattle.std.proofs.Common.{◌≡◌, ℕ, suc, ◌+◌, ◌-◌, ◌<◌, ◌≤◌, ◌==◌, List, [], ◌∷◌, ◌++◌, Option, None, Some, sym, ap, ◌∙◌, append_assoc, append-nil, arith}
use Rattle.workload_gen.specs.declared.tables.DrawnTable.{DrawnTable}
use Rattle.std.specs.Prelude.{unwrap_or}
use Rattle.workload_gen.specs.Draws.{state_of_seed, next_state, drawn, state_after}
use Rattle.workload_gen.specs.Tables.{rows_at, prevs_at, state_behind_prevs, table_at, state_behind, tables_from, drawn_tables}

-- ---- a table

module _ (before : Option ℕ) (state first second third rows pages index rows_before : ℕ) (prevs : List ℕ) (rows_is : rows ≡ drawn 15 state) (first_is : first ≡ next_state state)
    (pages_is : pages ≡ drawn 4 first) (second_is : second ≡ next_state first) (index_is : index ≡ drawn 2 second) (third_is : third ≡ next_state second) where
  third_state : third ≡ state_after 3 state
  third_state = third_is ∙ ap next_state (second_is ∙ ap next_state first_is)

  all_rows : 5 + rows ≡ rows_at state
  unfolding rows_at
  all_rows = ap (λ n. 5 + n) rows_is

  -- what is drawn is the table
  pub table_drawn : prevs ≡ prevs_at before (5 + rows) third → rows_before ≡ unwrap_or before 1
      → record { rows = 5 + rows; pages = 1 + pages; is_indexed = index == 1; rows_before = rows_before; prevs = prevs } ≡ table_at before state
  table_drawn prevs_are before_is =
      let pages_in : pages ≡ drawn 4 (next_state state) = pages_is ∙ ap (drawn 4) first_is in
      let index_in : index ≡ drawn 2 (state_after 2 state) = index_is ∙ ap (drawn 2) (second_is ∙ ap next_state first_is) in
      let all_prevs : prevs ≡ prevs_at before (rows_at state) (state_after 3 state) =
      prevs_are ∙ ap (λ n. prevs_at before n third) all_rows ∙ ap (prevs_at before (rows_at state)) third_state in
      λ j. record { rows = all_rows j; pages = 1 + pages_in j; is_indexed = index_in j == 1; rows_before = before_is j; prevs = all_prevs j }

  -- and the state is the one behind it
  pub state_drawn : (last : ℕ) → last ≡ state_behind_prevs before (5 + rows) third → last ≡ state_behind before state
  state_drawn last is = is ∙ ap (λ n. state_behind_prevs before n third) all_rows ∙ ap (state_behind_prevs before (rows_at state)) third_state

-- ---- all tables

abbrev pub TablesLeft : List DrawnTable → ℕ → Option ℕ → ℕ → List DrawnTable → Type 0
TablesLeft tables left before state all = tables ++ tables_from left before state ≡ all

pub table_next : (tables : List DrawnTable) (count place : ℕ) (before : Option ℕ) (state : ℕ) (all : List DrawnTable) → place < count → TablesLeft tables (count - place) before state all
    → TablesLeft (tables ++ table_at before state ∷ []) (count - (place + 1)) (Some (rows_at state)) (state_behind before state) all
table_next tables count place before state all below left =
    let later = count - (place + 1) in
    let more : count - place ≡ suc later = omega arith in
    append_assoc tables (table_at before state ∷ []) (tables_from later (Some (rows_at state)) (state_behind before state)) ∙ ap (λ n. tables ++ tables_from n before state) (sym more) ∙ left

pub tables_done : (tables : List DrawnTable) (count place : ℕ) (before : Option ℕ) (state : ℕ) (all : List DrawnTable) → count ≤ place → TablesLeft tables (count - place) before state all
    → tables ≡ all
tables_done tables count place before state all above left =
    let none : count - place ≡ 0 = omega arith in
    sym (ap (λ n. tables ++ tables_from n before state) none ∙ append-nil tables) ∙ left

pub tables_begin : (tables : List DrawnTable) (seed size state : ℕ) → tables ≡ [] → state ≡ state_of_seed seed → TablesLeft tables (size - 0) None state (drawn_tables seed size)
unfolding drawn_tables
tables_begin tables seed size state none is =
    let whole : size - 0 ≡ size = omega arith in
    ap (λ l. l ++ tables_from (size - 0) None state) none ∙ ap (λ n. tables_from n None state) whole ∙ ap (tables_from size None) is
