-- The records of a workload's tables hold rows.
use Rattle.std.proofs.Common.{◌≡◌, ℕ, zero, suc, ◌⊎◌, inl, inr, Bool, true, ◌+◌, ◌<◌, ◌≤◌, List, [], ◌∷◌, length, map, Option, Some, None, refl, ap, sym, ◌∙◌, subst, arith}
use Rattle.std.specs.Prelude.{decimal, is_some, slice_get, option_and_then, option_map, nat_le, if◌then◌else◌}
use Rattle.std.specs.Fmt.{digits}
use Rattle.std.specs.List.{list_all, range_with_len}
use Rattle.std.proofs.lemmas.Bool.{and_parts, le-leb}
use Rattle.sb_outside.specs.Records.{Records}
use Rattle.star_model.specs.Data.{Record, all_of, row_in, rows_in, value_in}
use Rattle.star_model.specs.Every.{Every}
use Rattle.star_model.specs.declared.catalogue.Catalogue.{Catalogue}
use Rattle.star_model.specs.declared.catalogue.ColType.TheVariants as type
use Rattle.star_model.specs.declared.catalogue.Value.{Value}
use Rattle.workload_gen.specs.declared.tables.DrawnTable.{DrawnTable}
use Rattle.workload_gen.specs.Links.{IsLinked, AreLinked}
use Rattle.workload_gen.specs.Records.{header, row_record, rows_from, records_of}
use Rattle.workload_gen.specs.Tables.{drawn_tables}
use Rattle.workload_gen.specs.Trees.{table_def, table_defs, catalogue_tree}
use Rattle.workload_gen.specs.Workloads.{IsSize, workload}
use Rattle.workload_gen.proofs.Laws.{tables_linked}
use Rattle.workload_runs.specs.HeldRows.{HoldsRows, HoldRows}

-- ---- a number in decimal is read as an integer

tested : (test : ℕ → Bool) (from count n : ℕ) → list_all test (range_with_len from count) ≡ true → from ≤ n → n < from + count → test n ≡ true
tested test from zero n all low high = absurd (omega (arith, low, high))
tested test from (suc count) n all low high =
    let parts = and_parts (test from) (list_all test (range_with_len (from + 1) count)) all in
    elim (first_or_later from n low) [
      | inl is ↦ subst (λ m. test m ≡ true) is parts.0
      | inr later ↦ tested test (from + 1) count n parts.1 later (omega (arith, high))
    ]
  where
    first_or_later : (from n : ℕ) → from ≤ n → (from ≡ n) ⊎ (from + 1 ≤ n)
    first_or_later from n low = grind arith

abbrev reads : ℕ → Bool
reads n = is_some (value_in type.Int (decimal n))

all_read : list_all reads (range_with_len 0 20) ≡ true
unfolding digits
all_read = refl

given : {A : Type 0} (o : Option A) → is_some o ≡ true → (x : A) × (o ≡ Some x)
given None is = cc
given (Some x) is = (x, refl)

integer : (n : ℕ) → n < 20 → (v : Value) × (value_in type.Int (decimal n) ≡ Some v)
integer n small = given (value_in type.Int (decimal n)) (tested reads 0 20 n all_read (omega arith) (omega (arith, small)))

-- ---- rows

abbrev HasRow : ℕ → DrawnTable → Record → Type 0
HasRow number table fields = (row : List Value) × (row_in (table_def number table) 2 (0 ∷ 1 ∷ []) fields ≡ Some row)

a_row : (number : ℕ) (table : DrawnTable) (id prev : ℕ) → id < 20 → prev < 20 → HasRow number table (row_record id prev)
a_row number table id prev small small_prev =
    let first = integer id small in
    let second = integer prev small_prev in
    (first.0 ∷ second.0 ∷ [], (λ i. all_of (first.1 i ∷ second.1 i ∷ [])))

abbrev HaveAll : ℕ → DrawnTable → List Record → Type 0
HaveAll number table records = (rows : List (List Value)) × (all_of (map (row_in (table_def number table) 2 (0 ∷ 1 ∷ [])) records) ≡ Some rows)

all_rows : (number : ℕ) (table : DrawnTable) (from : ℕ) (prevs : List ℕ) → from + length prevs ≤ 20 → Every (λ prev. prev < 20) prevs → HaveAll number table (rows_from from prevs)
all_rows number table from [] few small = ([], refl)
all_rows number table from (prev ∷ later) few small =
    let own = a_row number table from prev (omega (arith, few)) small.0 in
    let rest = all_rows number table (from + 1) later (omega (arith, few)) small.1 in
    (own.0 ∷ rest.0, (λ i. option_and_then (λ x. option_map (λ xs. x ∷ xs) (rest.1 i)) (own.1 i)))

length-rows : (from : ℕ) (prevs : List ℕ) → length (rows_from from prevs) ≡ length prevs
length-rows from [] = refl
length-rows from (prev ∷ later) = ap suc (length-rows (from + 1) later)

smaller : (bound prevs_below : ℕ) (prevs : List ℕ) → prevs_below ≤ bound → Every (λ prev. prev < prevs_below) prevs → Every (λ prev. prev < bound) prevs
smaller bound below [] few small = tt
smaller bound below (prev ∷ later) few small = (omega (arith, few, small.0), smaller bound below later few small.1)

-- where the table has this place in the catalogue
table_holds : (c : Catalogue) (n number rows_before : ℕ) (table : DrawnTable) → rows_before ≤ 19 → IsLinked rows_before table
    → slice_get c.tables n ≡ Some (table_def number table) → HoldsRows c n (records_of table)
table_holds c n number rows_before table few linked at =
    let count = linked.each_row in
    let held = all_rows number table 0 table.prevs (omega (arith, count, linked.rows.1)) (smaller 20 rows_before table.prevs (omega (arith, few)) linked.to_a_row) in
    let most : nat_le (length (rows_from 0 table.prevs)) 200000 ≡ true =
    le-leb (length (rows_from 0 table.prevs)) 200000 (omega (arith, length-rows 0 table.prevs, count, linked.rows.1)) in
    let rows : rows_in (table_def number table) header (rows_from 0 table.prevs) ≡ Some held.0 =
    ap (λ b. if b then all_of (map (row_in (table_def number table) 2 (0 ∷ 1 ∷ [])) (rows_from 0 table.prevs)) else None) most ∙ held.1 in
    (held.0, ap (λ o. option_and_then (λ t. rows_in t header (rows_from 0 table.prevs)) o) at ∙ rows)

-- ---- tables

record Stands (number : ℕ) (tables : List DrawnTable) (n : ℕ) (records : Records) : Type 0 where
  own : ℕ
  table : DrawnTable
  rows_before : ℕ
  few : rows_before ≤ 19
  linked : IsLinked rows_before table
  are : records ≡ records_of table
  at : slice_get (table_defs number tables) n ≡ Some (table_def own table)

stands : (number rows_before : ℕ) (tables : List DrawnTable) (n : ℕ) (records : Records) → rows_before ≤ 19 → AreLinked rows_before tables
    → slice_get (map records_of tables) n ≡ Some records → Stands number tables n records
stands number rows_before [] n records few linked at = cc
stands number rows_before (table ∷ later) zero records few linked at =
    let same : records ≡ records_of table = cc in
    record { own = number; table = table; rows_before = rows_before; few = few; linked = linked.0; are = same; at = refl }
stands number rows_before (table ∷ later) (suc n) records few linked at =
    let s = stands (number + 1) table.rows later n records linked.0.rows.1 linked.1 at in
    record { own = s.own; table = s.table; rows_before = s.rows_before; few = s.few; linked = s.linked; are = s.are; at = s.at }

pub rows_held : (seed size : ℕ) → IsSize size → HoldRows (catalogue_tree (drawn_tables seed size)) (workload seed size).tables
rows_held seed size is n records at =
    let tables = drawn_tables seed size in
    let s = stands 1 1 tables n records (omega arith) (tables_linked seed size) at in
    subst (HoldsRows (catalogue_tree tables) n) (sym s.are) (table_holds (catalogue_tree tables) n s.own s.rows_before s.table s.few s.linked s.at)
