-- Records without a fault are those that hold rows.
use Rattle.std.proofs.Common.{◌≡◌, refl, sym, ap, subst, ◌∙◌, ◌⊎◌, inl, inr, ℕ, ◌+◌, ◌<◌, ◌≤◌, List, [], ◌∷◌, length, map, Option, Some, None, slice_get, Result, Ok, Err, Bool, true, false, arith, nat_eq}
use Rattle.std.specs.Prelude.{◌↔◌, nat_le, option_map, option_and_then, if◌then◌else◌}
use Rattle.std.specs.Option.{is_some, option_or, option_map_or}
use Rattle.std.proofs.lemmas.Bool.Decides.{nat_tests}
use Rattle.std.proofs.lemmas.Option.{slice_get_cases}
use Rattle.star_model.specs.Data.{Record, all_of, header_of, place_in, values_at, row_in, rows_in, table_rows}
use Rattle.star_model.specs.declared.catalogue.Catalogue.{Catalogue}
use Rattle.star_model.specs.declared.catalogue.TableDef.{TableDef}
use Rattle.star_model.specs.declared.catalogue.ColumnDef.{ColumnDef}
use Rattle.star_model.specs.declared.catalogue.Value.{Value}
use Rattle.row_store.specs.declared.header.Column.{Column}
use Rattle.row_store.specs.declared.fault.TableFault.{TableFault}
use Rattle.row_store.specs.declared.fault.TableFault.TheVariants.{BadHeader, TooManyRows, BadRow, BadField, Memory}
use Rattle.row_store.specs.Columns.{column_in, columns_in}
use Rattle.row_store.specs.Faults.{HasFault, HasNoFault, Loads}
use Rattle.row_store.specs.Reading.{bad_column, rows_fault}
use Rattle.row_store.specs.Loading.{column_value, rows_with, first_fault}
use Rattle.row_store.proofs.Collected.{tail_of}
use Rattle.row_store.proofs.HeaderColumns.{length-header, in_header}
use Rattle.row_store.proofs.RowsFirst.{IsFirst}
use Rattle.row_store.proofs.Loaded.{rows_read, first_in}

-- ---- what holds rows has no fault

clear_values : (fields : Record) (before : ℕ) (columns : List Column) (values : List Value) → all_of (map (column_value fields) columns) ≡ Some values → bad_column fields before columns ≡ None
clear_values fields before [] values is = refl
clear_values fields before (c ∷ cs) values is = at (λ found h. clear_values fields (before + 1) cs found h) (column_value fields c) is
  where
    at : ((found : List Value) → all_of (map (column_value fields) cs) ≡ Some found → bad_column fields (before + 1) cs ≡ None) → (o : Option Value)
        → option_and_then (λ x. option_map (λ xs. x ∷ xs) (all_of (map (column_value fields) cs))) o ≡ Some values → (if is_some o then bad_column fields (before + 1) cs else Some (before + 1)) ≡ None
    at law None is = absurd cc
    at law (Some v) is = let tail = tail_of v (all_of (map (column_value fields) cs)) values is in law tail.0 tail.1

no_fault_here : (row : ℕ) (many same : Bool) (bad : Option ℕ) (rest : Option TableFault) → many ≡ false → same ≡ true → bad ≡ None → rest ≡ None
    → (if many then Some TooManyRows else option_or (if same then option_map (BadField row) bad else Some (BadRow row)) rest) ≡ None
no_fault_here row true same bad rest few equal clear later = absurd cc
no_fault_here row false false bad rest few equal clear later = absurd cc
no_fault_here row false true (Some column) rest few equal clear later = absurd cc
no_fault_here row false true None rest few equal clear later = later

module _ (t : TableDef) (columns : List Column) (places : List ℕ) (values_are : (fields : Record) → values_at fields t.columns places ≡ map (column_value fields) columns) (count : ℕ) where
  clear_rows : (before : ℕ) (rows : List Record) (found : List (List Value)) → before + length rows ≤ 200000 → all_of (map (row_in t count places) rows) ≡ Some found
      → rows_fault columns count before rows ≡ None
  clear_rows before [] found few is = refl
  clear_rows before (fields ∷ rows) found few is =
      at (nat_eq (length fields) count) refl (all_of (values_at fields t.columns places)) refl is (λ later h. clear_rows (before + 1) rows later (omega arith) h)
    where
      at : (same : Bool) → nat_eq (length fields) count ≡ same → (values : Option (List Value)) → all_of (values_at fields t.columns places) ≡ values
          → option_and_then (λ x. option_map (λ xs. x ∷ xs) (all_of (map (row_in t count places) rows))) (if same then values else None) ≡ Some found
          → ((later : List (List Value)) → all_of (map (row_in t count places) rows) ≡ Some later → rows_fault columns count (before + 1) rows ≡ None)
          → rows_fault columns count before (fields ∷ rows) ≡ None
      at false is-same values is-values is law = absurd cc
      at true is-same None is-values is law = absurd cc
      at true same (Some values) is-values is law =
          let tail = tail_of values (all_of (map (row_in t count places) rows)) found is in
          no_fault_here (before + 1) (nat_le 200000 before) (nat_eq (length fields) count) (bad_column fields 0 columns) (rows_fault columns count (before + 1) rows)
          (grind (arith, nat_tests)) same (clear_values fields 0 columns values (ap all_of (sym (values_are fields)) ∙ is-values)) (law tail.0 tail.1)

-- a column has its place where it is found
no_places : (header : Record) (cs : List ColumnDef) → all_of (map (column_in header) cs) ≡ None → all_of (map (λ c. place_in header c.name) cs) ≡ None
no_places header [] is = absurd cc
no_places header (c ∷ cs) is = at (place_in header c.name) (all_of (map (column_in header) cs)) refl is (λ none. no_places header cs none)
  where
    at : (o : Option ℕ) (later : Option (List Column)) → all_of (map (column_in header) cs) ≡ later
        → option_and_then (λ x. option_map (λ xs. x ∷ xs) later) (option_map (λ place. record { kind = c.kind; place = place }) o) ≡ None
        → (all_of (map (column_in header) cs) ≡ None → all_of (map (λ c. place_in header c.name) cs) ≡ None)
        → option_and_then (λ x. option_map (λ xs. x ∷ xs) (all_of (map (λ c. place_in header c.name) cs))) o ≡ None
    at None later later_is is law = refl
    at (Some p) None later_is is law = ap (option_map (λ xs. p ∷ xs)) (law later_is)
    at (Some p) (Some columns) later_is is law = absurd cc

few_rows : (rows : List Record) (found : Option (List (List Value))) (all : List (List Value)) → (if nat_le (length rows) 200000 then found else None) ≡ Some all → (length rows ≤ 200000) × (found ≡ Some all)
few_rows rows found all is = at (nat_le (length rows) 200000) refl is
  where
    at : (few : Bool) → nat_le (length rows) 200000 ≡ few → (if few then found else None) ≡ Some all → (length rows ≤ 200000) × (found ≡ Some all)
    at true few is = (grind (arith, nat_tests), is)
    at false few is = absurd cc

reads_clear : (t : TableDef) (header : Record) (rows : List Record) (all : List (List Value)) → rows_in t (header_of header) rows ≡ Some all → first_fault t (header ∷ rows) ≡ None
reads_clear t header rows all is = at (columns_in (header_of header) t) refl
  where
    at : (o : Option (List Column)) → columns_in (header_of header) t ≡ o → option_map_or (λ columns. rows_fault columns (length header) 0 rows) o (Some BadHeader) ≡ None
    at None none =
        let no_rows : None ≡ Some all =
        ap (option_and_then (λ places. if nat_le (length rows) 200000 then all_of (map (row_in t (length (header_of header)) places) rows) else None)) (sym (no_places (header_of header) t.columns none)) ∙ is in
        absurd cc
    at (Some columns) found =
        let laws = in_header (header_of header) t.columns columns found in
        let places = map (λ (c : Column). c.place) columns in
        let read = few_rows rows (all_of (map (row_in t (length (header_of header)) places) rows)) all
        (ap (option_and_then (λ places. if nat_le (length rows) 200000 then all_of (map (row_in t (length (header_of header)) places) rows) else None)) (sym laws.0) ∙ is) in
        let few : length rows ≤ 200000 = read.0 in
        clear_rows t columns places laws.1 (length header) 0 rows all (omega arith)
        (ap (λ n. all_of (map (row_in t n places) rows)) (sym (length-header header)) ∙ read.1)

table_clear : (t : TableDef) (c : Catalogue) (n : ℕ) (records : List Record) (rows : List (List Value)) → slice_get c.tables n ≡ Some t → table_rows c n records ≡ Some rows → first_fault t records ≡ None
table_clear t c n [] rows at is = absurd cc
table_clear t c n (header ∷ records) rows at is = reads_clear t header records rows (ap (option_and_then (λ t. rows_in t (header_of header) records)) (sym at) ∙ is)

-- ---- what has no fault holds rows

clear_read : (t : TableDef) (records : List Record) (c : Catalogue) (n : ℕ) → slice_get c.tables n ≡ Some t → first_fault t records ≡ None → (rows : List (List Value)) × (table_rows c n records ≡ Some rows)
clear_read t [] c n at clear = absurd cc
clear_read t (header ∷ records) c n at clear = found (columns_in (header_of header) t) refl clear
  where
    found : (o : Option (List Column)) → columns_in (header_of header) t ≡ o → option_map_or (λ columns. rows_fault columns (length header) 0 records) o (Some BadHeader) ≡ None
        → (rows : List (List Value)) × (table_rows c n (header ∷ records) ≡ Some rows)
    found None none clear = absurd cc
    found (Some columns) is clear =
        (rows_with columns records, ap (option_and_then (λ t. rows_in t (header_of header) records)) at ∙ rows_read t header records columns is clear)

-- ---- the laws

module _ (c : Catalogue) (n : ℕ) (records : List Record) where
  with_table : (P : Type 0) → n < length c.tables → ((t : TableDef) → slice_get c.tables n ≡ Some t → P) → P
  with_table P within law = elim (slice_get_cases c.tables n).1 [ inl h ↦ law h.0 h.2 | inr h ↦ absurd (omega (arith, h.0)) ]

  pub clear_rows_are : n < length c.tables → HasNoFault c n records ↔ ((rows : List (List Value)) × (table_rows c n records ≡ Some rows))
  clear_rows_are within = (λ clear. with_table _ within (λ t at. read t at clear (first_fault t records) refl), λ rows. with_table _ within (λ t at. unread t at rows))
    where
      read : (t : TableDef) → slice_get c.tables n ≡ Some t → HasNoFault c n records → (o : Option TableFault) → first_fault t records ≡ o → (rows : List (List Value)) × (table_rows c n records ≡ Some rows)
      read t at clear None is = clear_read t records c n at is
      read t at clear (Some fault) is =
          let first : IsFirst (HasFault c n records) (Some fault) = subst (IsFirst (HasFault c n records)) is (first_in c n t records at) in
          absurd (clear fault first.0)

      unread : (t : TableDef) → slice_get c.tables n ≡ Some t → (rows : List (List Value)) × (table_rows c n records ≡ Some rows) → HasNoFault c n records
      unread t at rows = subst (IsFirst (HasFault c n records)) (table_clear t c n records rows.0 at rows.1) (first_in c n t records at)

  pub rows_loaded : n < length c.tables → (rows : List (List Value)) → table_rows c n records ≡ Some rows → (result : Result (List (List Value)) TableFault) → Loads c n records result
      → (result ≡ Ok rows) ⊎ (result ≡ Err Memory)
  rows_loaded within rows are result loads = at result loads
    where
      none : HasNoFault c n records
      none = (clear_rows_are within).1 (rows, are)

      at : (result : Result (List (List Value)) TableFault) → Loads c n records result → (result ≡ Ok rows) ⊎ (result ≡ Err Memory)
      at (Ok found) h = let e : Some found ≡ Some rows = sym h.rows_are ∙ are in let same : found ≡ rows = cc in inl (ap (λ x. Ok x) same)
      at (Err Memory) h = inr refl
      at (Err BadHeader) h = absurd (none BadHeader h.has)
      at (Err TooManyRows) h = absurd (none TooManyRows h.has)
      at (Err (BadRow row)) h = absurd (none (BadRow row) h.has)
      at (Err (BadField row column)) h = absurd (none (BadField row column) h.has)
