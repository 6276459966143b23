-- What the first fault of the rows says.
use Rattle.std.proofs.Common.{◌≡◌, refl, ℕ, ◌+◌, ◌<◌, ◌≤◌, List, [], ◌∷◌, length, drop, Option, Some, None, Bool, true, false, arith, nat_eq}
use Prim.Native.Nat.{zero, suc}
use Rattle.std.specs.Prelude.{All, nat_le, option_map, if◌then◌else◌}
use Rattle.std.specs.Option.{option_or}
use Rattle.std.proofs.lemmas.Bool.Decides.{nat_tests}
use Rattle.std.proofs.lemmas.List.Elements.{All-nil, All-cons}
use Rattle.sb_outside.specs.Records.{record_at}
use Rattle.star_model.specs.Data.{Record}
use Rattle.row_store.specs.declared.header.Column.{Column}
use Rattle.row_store.specs.declared.fault.TableFault.{TableFault}
use Rattle.row_store.specs.declared.fault.TableFault.TheVariants.{TooManyRows, BadRow, BadField}
use Rattle.row_store.specs.Reading.{has_value, bad_column, row_fault, rows_fault}

pub too_many : (columns : List Column) (count before : ℕ) (rows : List Record) → 0 < length rows → 200000 ≤ before → Some TooManyRows ≡ rows_fault columns count before rows
too_many columns count before [] some many = absurd (omega arith)
too_many columns count before (fields ∷ rows) some many = grind (arith, nat_tests)

-- ---- rows without a fault

none_of : (many : Bool) (here later : Option TableFault) → (if many then Some TooManyRows else option_or here later) ≡ None → (many ≡ false) × (here ≡ None) × (later ≡ None)
none_of true here later is = absurd cc
none_of false None later is = (refl, refl, is)
none_of false (Some fault) later is = absurd cc

pub clear_first : (columns : List Column) (count before : ℕ) (fields : Record) (rows : List Record) → rows_fault columns count before (fields ∷ rows) ≡ None
    → (nat_le 200000 before ≡ false) × (row_fault columns count (before + 1) fields ≡ None) × (rows_fault columns count (before + 1) rows ≡ None)
clear_first columns count before fields rows clear =
    none_of (nat_le 200000 before) (row_fault columns count (before + 1) fields) (rows_fault columns count (before + 1) rows) clear

pub row_clear : (columns : List Column) (count row : ℕ) (fields : Record) → row_fault columns count row fields ≡ None → (length fields ≡ count) × (bad_column fields 0 columns ≡ None)
row_clear columns count row fields clear = at (nat_eq (length fields) count) refl (bad_column fields 0 columns) refl clear
  where
    at : (same : Bool) → nat_eq (length fields) count ≡ same → (bad : Option ℕ) → bad_column fields 0 columns ≡ bad
        → (if same then option_map (BadField row) bad else Some (BadRow row)) ≡ None → (length fields ≡ count) × (bad_column fields 0 columns ≡ None)
    at true same None bad is = (grind (arith, nat_tests), bad)
    at true same (Some n) bad is = absurd cc
    at false same bad is-bad is = absurd cc

pub clear_few : (columns : List Column) (count before : ℕ) (rows : List Record) → before ≤ 200000 → rows_fault columns count before rows ≡ None → before + length rows ≤ 200000
clear_few columns count before [] few clear = omega arith
clear_few columns count before (fields ∷ rows) few clear =
    let parts = clear_first columns count before fields rows clear in
    let room : before < 200000 = grind (arith, nat_tests, parts.0) in
    let rest : (before + 1) + length rows ≤ 200000 = clear_few columns count (before + 1) rows (omega arith) parts.2 in
    omega arith

clear_row : (columns : List Column) (count before : ℕ) (rows : List Record) → rows_fault columns count before rows ≡ None
    → (row : ℕ) → row < length rows → (length (record_at rows row) ≡ count) × (bad_column (record_at rows row) 0 columns ≡ None)
clear_row columns count before [] clear row within = absurd (omega arith)
clear_row columns count before (fields ∷ rows) clear zero within =
    row_clear columns count (before + 1) fields (clear_first columns count before fields rows clear).1
clear_row columns count before (fields ∷ rows) clear (suc row) within =
    clear_row columns count (before + 1) rows (clear_first columns count before fields rows clear).2 row (omega arith)

-- a record without a bad column has a value in each
column_values : (fields : Record) (before : ℕ) (columns : List Column) → bad_column fields before columns ≡ None → All (λ column. has_value fields column ≡ true) columns
column_values fields before [] clear = All-nil (λ column. has_value fields column ≡ true)
column_values fields before (c ∷ columns) clear = at (has_value fields c) refl clear (λ rest. column_values fields (before + 1) columns rest)
  where
    at : (value : Bool) → has_value fields c ≡ value → (if value then bad_column fields (before + 1) columns else Some (before + 1)) ≡ None
        → (bad_column fields (before + 1) columns ≡ None → All (λ column. has_value fields column ≡ true) columns) → All (λ column. has_value fields column ≡ true) (c ∷ columns)
    at true is clear law = All-cons (λ column. has_value fields column ≡ true) c columns is (law clear)
    at false is clear law = absurd cc

pub few_records : (columns : List Column) (records : List Record) → 0 < length records → rows_fault columns (length (record_at records 0)) 0 (drop 1 records) ≡ None → length records ≤ 200001
few_records columns [] some clear = absurd (omega arith)
few_records columns (header ∷ rows) some clear =
    let few : 0 + length rows ≤ 200000 = clear_few columns (length header) 0 rows (omega arith) clear in omega arith

pub equal_lengths : (columns : List Column) (records : List Record) → 0 < length records → rows_fault columns (length (record_at records 0)) 0 (drop 1 records) ≡ None
    → (row : ℕ) → row < length records → length (record_at records row) ≡ length (record_at records 0)
equal_lengths columns [] some clear row within = absurd (omega arith)
equal_lengths columns (header ∷ rows) some clear zero within = refl
equal_lengths columns (header ∷ rows) some clear (suc row) within = (clear_row columns (length header) 0 rows clear row (omega arith)).0

pub all_values : (columns : List Column) (records : List Record) → 0 < length records → rows_fault columns (length (record_at records 0)) 0 (drop 1 records) ≡ None
    → (row : ℕ) → 0 < row → row < length records → All (λ column. has_value (record_at records row) column ≡ true) columns
all_values columns [] some clear row above within = absurd (omega arith)
all_values columns (header ∷ rows) some clear zero above within = absurd (omega arith)
all_values columns (header ∷ rows) some clear (suc row) above within =
    column_values (record_at rows row) 0 columns (clear_row columns (length header) 0 rows clear row (omega arith)).1
