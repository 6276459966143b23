-- Records without a fault hold the table's rows.
use Rattle.std.proofs.Common.{◌≡◌, ◌∙◌, sym, ap, refl, subst, ℕ, ◌+◌, ◌<◌, ◌≤◌, List, [], ◌∷◌, length, map, Option, Some, None, true, arith, nat_eq, slice_get, pos, Result, Ok, Err, get_or}
use Prim.Native.Nat.{zero, suc}
use Rattle.std.specs.Prelude.{nat_le, option_map, option_and_then, unwrap_or, if◌then◌else◌}
use Rattle.std.specs.Option.{is_some, IsSomeAnd}
use Rattle.std.proofs.lemmas.Bool.Decides.{nat_tests}
use Rattle.star_model.specs.Data.{Record, all_of, header_of, values_at, row_in, rows_in}
use Rattle.star_model.specs.WellFormed.{WellFormedCatalogue, WellFormedTable, Each, more}
use Rattle.star_model.specs.declared.catalogue.Catalogue.{Catalogue}
use Rattle.star_model.specs.declared.catalogue.TableDef.{TableDef}
use Rattle.star_model.specs.declared.catalogue.Value.{Value}
use Rattle.star_model.specs.declared.catalogue.Value.TheVariants as constant
use Rattle.row_store.specs.declared.header.Column.{Column}
use Rattle.row_store.specs.declared.fault.TableFault.{TableFault}
use Rattle.row_store.specs.declared.fault.TableFault.TheVariants.{BadHeader, TooManyRows, BadRow, BadField, Memory}
use Rattle.row_store.specs.Columns.{columns_in}
use Rattle.row_store.specs.Reading.{bad_column, rows_fault}
use Rattle.row_store.specs.Loading.{column_value, rows_with, first_fault, IsRowsOf, Opens}
use Rattle.row_store.specs.Faults.{RecordsHave, HasFault, IsFirstFault, AreLoaded, Loads}
use Rattle.row_store.proofs.HeaderColumns.{length-header, in_header}
use Rattle.row_store.proofs.RowsFirst.{IsFirst, first_of}
use Rattle.row_store.proofs.FirstFaults.{table_first}
use Rattle.row_store.proofs.RowFaults.{clear_first, row_clear, clear_few}

-- ---- values

full_values : (fields : Record) (before : ℕ) (columns : List Column) → bad_column fields before columns ≡ None
    → all_of (map (column_value fields) columns) ≡ Some (map (λ column. unwrap_or (column_value fields column) (constant.Int (pos 0))) columns)
full_values fields before [] clear = refl
full_values fields before (c ∷ cs) clear = at (λ h. full_values fields (before + 1) cs h) (column_value fields c) clear
  where
    at : (bad_column fields (before + 1) cs ≡ None → all_of (map (column_value fields) cs) ≡ Some (map (λ column. unwrap_or (column_value fields column) (constant.Int (pos 0))) cs)) → (o : Option Value) → (if is_some o then bad_column fields (before + 1) cs else Some (before + 1)) ≡ None
        → option_and_then (λ x. option_map (λ xs. x ∷ xs) (all_of (map (column_value fields) cs))) o
        ≡ Some (unwrap_or o (constant.Int (pos 0)) ∷ map (λ column. unwrap_or (column_value fields column) (constant.Int (pos 0))) cs)
    at law None clear = absurd cc
    at law (Some v) clear = ap (option_map (λ vs. v ∷ vs)) (law clear)

same_count : (n m : ℕ) → n ≡ m → nat_eq n m ≡ true
same_count n m is = grind (arith, nat_tests)

within_bound : (n m : ℕ) → n ≤ m → nat_le n m ≡ true
within_bound n m is = grind (arith, nat_tests)

full_rows : (t : TableDef) (columns : List Column) (places : List ℕ) → ((fields : Record) → values_at fields t.columns places ≡ map (column_value fields) columns)
    → (count before : ℕ) (rows : List Record) → rows_fault columns count before rows ≡ None → all_of (map (row_in t count places) rows) ≡ Some (rows_with columns rows)
full_rows t columns places values count before [] clear = refl
full_rows t columns places values count before (fields ∷ rows) clear =
    let parts = clear_first columns count before fields rows clear in
    let row = row_clear columns count (before + 1) fields parts.1 in
    ap (λ b. option_and_then (λ x. option_map (λ xs. x ∷ xs) (all_of (map (row_in t count places) rows))) (if b then all_of (values_at fields t.columns places) else None))
    (same_count (length fields) count row.0)
    ∙ ap (λ o. option_and_then (λ x. option_map (λ xs. x ∷ xs) (all_of (map (row_in t count places) rows))) o) (ap all_of (values fields) ∙ full_values fields 0 columns row.1)
    ∙ ap (option_map (λ xs. map (λ column. unwrap_or (column_value fields column) (constant.Int (pos 0))) columns ∷ xs)) (full_rows t columns places values count (before + 1) rows parts.2)

-- ---- the table

pub rows_read : (t : TableDef) (header : Record) (behind : List Record) (columns : List Column) → columns_in (header_of header) t ≡ Some columns
    → rows_fault columns (length header) 0 behind ≡ None → rows_in t (header_of header) behind ≡ Some (rows_with columns behind)
rows_read t header behind columns is clear =
    let laws = in_header (header_of header) t.columns columns is in
    let room : 0 + length behind ≤ 200000 = clear_few columns (length header) 0 behind (omega arith) clear in
    let few : length behind ≤ 200000 = omega arith in
    ap (option_and_then (λ places. if nat_le (length behind) 200000 then all_of (map (row_in t (length (header_of header)) places) behind) else None)) laws.0
    ∙ ap (λ b. if b then all_of (map (row_in t (length (header_of header)) (map (λ c. c.place) columns)) behind) else None)
    (within_bound (length behind) 200000 few)
    ∙ ap (λ n. all_of (map (row_in t n (map (λ c. c.place) columns)) behind)) (length-header header)
    ∙ full_rows t columns (map (λ c. c.place) columns) laws.1 (length header) 0 behind clear

each_at : {A : Type 0} (P : A → Type 0) (xs : List A) (n : ℕ) (x : A) → n < length xs → x ≡ get_or xs n x → Each P xs → P x
each_at P [] n x within is each = absurd (omega arith)
each_at P (y ∷ xs) zero x within is (more _ _ here rest) = subst P (sym is) here
each_at P (y ∷ xs) (suc n) x within is (more _ _ here rest) = each_at P xs n x (omega arith) is rest

pub few_columns : (c : Catalogue) (n : ℕ) (t : TableDef) → WellFormedCatalogue c → n < length c.tables → t ≡ get_or c.tables n t → length t.columns ≤ 32
few_columns c n t formed within is = (each_at (WellFormedTable (length c.sites)) c.tables n t within is formed.tables).some_columns.1

-- ---- the table of this number

module _ (c : Catalogue) (n : ℕ) (t : TableDef) (records : List Record) (at : slice_get c.tables n ≡ Some t) where
  of_table : (fault : TableFault) → HasFault c n records fault → RecordsHave t records fault
  of_table fault has = subst (λ (o : Option TableDef). IsSomeAnd o (λ t. RecordsHave t records fault)) at has

  in_catalogue : (fault : TableFault) → RecordsHave t records fault → HasFault c n records fault
  in_catalogue fault has = subst (λ (o : Option TableDef). IsSomeAnd o (λ t. RecordsHave t records fault)) (sym at) has

  pub first_in : IsFirst (HasFault c n records) (first_fault t records)
  first_in = first_of (RecordsHave t records) (HasFault c n records) in_catalogue of_table (first_fault t records) (table_first t records)

  loaded : (rows : List (List Value)) → IsRowsOf t records rows → AreLoaded c n records rows
  loaded rows h =
      let clear : rows_fault h.columns (length h.header) 0 h.behind ≡ None = rw (h.are, h.in_header) at h.clear in
      record {
        rows_are = rw (h.are, at) (rows_read t h.header h.behind h.columns h.in_header clear ∙ ap (λ rs. Some rs) (sym h.rows_are));
        clear = subst (IsFirst (HasFault c n records)) h.clear first_in;
      }

  refused : (fault : TableFault) → first_fault t records ≡ Some fault → IsFirstFault c n records fault
  refused fault is = let first : IsFirst (HasFault c n records) (Some fault) = subst (IsFirst (HasFault c n records)) is first_in in record { has = first.0; first = first.1 }

pub loads : (c : Catalogue) (n : ℕ) (t : TableDef) (records : List Record) (r : Result (List (List Value)) TableFault) → slice_get c.tables n ≡ Some t → Opens t records r → Loads c n records r
loads c n t records (Ok rows) at h = loaded c n t records at rows h
loads c n t records (Err BadHeader) at h = refused c n t records at BadHeader h
loads c n t records (Err TooManyRows) at h = refused c n t records at TooManyRows h
loads c n t records (Err (BadRow row)) at h = refused c n t records at (BadRow row) h
loads c n t records (Err (BadField row column)) at h = refused c n t records at (BadField row column) h
loads c n t records (Err Memory) at h = tt
