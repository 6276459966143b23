-- The fault that is found by reading the records is the first one.
use Rattle.std.proofs.Common.{◌≡◌, refl, sym, ap, ◌∙◌, inl, inr, ℕ, ◌+◌, ◌<◌, List, [], ◌∷◌, length, Option, Some, None, slice_get, false, arith}
use Prim.Native.Nat.{zero, suc}
use Rattle.std.specs.Prelude.{option_map}
use Rattle.std.specs.Option.{is_some, option_map_or}
use Rattle.std.specs.List.{list_all, position}
use Rattle.star_model.specs.Data.{Record, header_of}
use Rattle.star_model.specs.declared.catalogue.TableDef.{TableDef}
use Rattle.row_store.specs.declared.header.Column.{Column}
use Rattle.row_store.specs.declared.fault.TableFault.{TableFault}
use Rattle.row_store.specs.declared.fault.TableFault.TheVariants.{BadHeader, TooManyRows, BadRow, BadField, Memory}
use Rattle.row_store.specs.Columns.{columns_in}
use Rattle.row_store.specs.Faults.{stands_once, lacks_value, IsRow, RecordsHave}
use Rattle.row_store.specs.Reading.{rows_fault}
use Rattle.row_store.specs.Loading.{first_fault}
use Rattle.row_store.proofs.HeaderColumns.{length-header, have_columns, bad_first}
use Rattle.row_store.proofs.RowsFirst.{IsFirst, first_of, IsRowBehind, RowsHave, rows_first}

module _ (header : Record) (rows : List Record) (row : ℕ) (fields : Record) where
  as_row : IsRowBehind 0 rows row fields → IsRow (header ∷ rows) row fields
  as_row h = record { behind_header = omega arith; is = ap (slice_get (header ∷ rows)) number ∙ h.is }
    where
      number : row ≡ suc h.place
      number = omega arith

  as_behind : IsRow (header ∷ rows) row fields → IsRowBehind 0 rows row fields
  as_behind h = at row h.behind_header h.is
    where
      at : (n : ℕ) → 0 < n → slice_get (header ∷ rows) n ≡ Some fields → IsRowBehind 0 rows n fields
      at zero above is = absurd (omega arith)
      at (suc n) above is = record { place = n; number = omega arith; is = is }

more : (found : Option ℕ) (column : ℕ) → option_map (λ n. n + 1) found ≡ Some column → (place : ℕ) × (column ≡ place + 1) × (found ≡ Some place)
more None column is = absurd cc
more (Some place) column is = let same : place + 1 ≡ column = cc in (place, sym same, refl)

module _ (t : TableDef) (header : Record) (rows : List Record) (columns : List Column) (is : columns_in (header_of header) t ≡ Some columns) where
  to_table : (fault : TableFault) → RowsHave columns (length header) 0 rows fault → RecordsHave t (header ∷ rows) fault
  to_table BadHeader has = absurd has
  to_table TooManyRows has = (has.0, as_row header rows 200001 has.0 has.1)
  to_table (BadRow row) has = record { fields = has.0; is = as_row header rows row has.0 has.1; count = λ e. has.2 (e ∙ length-header header) }
  to_table (BadField row column) has =
      let found = more (position (lacks_value (header_of header) has.0) t.columns) column (sym (bad_first t (header_of header) has.0 columns is) ∙ has.3) in
      record {
        fields = has.0;
        is = as_row header rows row has.0 has.1;
        count = has.2 ∙ sym (length-header header);
        place = found.0;
        number = found.1;
        first = found.2;
      }
  to_table Memory has = has

  no_bad_header : list_all (stands_once (header_of header)) t.columns ≡ false → ⊥
  no_bad_header bad = let e = sym bad ∙ sym (have_columns (header_of header) t.columns) ∙ ap is_some is in absurd cc

  from_table : (fault : TableFault) → RecordsHave t (header ∷ rows) fault → RowsHave columns (length header) 0 rows fault
  from_table BadHeader (inl none) = absurd cc
  from_table BadHeader (inr bad) = no_bad_header bad
  from_table TooManyRows has = (has.0, as_behind header rows 200001 has.0 has.1)
  from_table (BadRow row) has = (has.fields, as_behind header rows row has.fields has.is, λ e. has.count (e ∙ sym (length-header header)))
  from_table (BadField row column) has = (
    has.fields,
    as_behind header rows row has.fields has.is,
    has.count ∙ length-header header,
    bad_first t (header_of header) has.fields columns is ∙ ap (option_map (λ n. n + 1)) has.first ∙ ap (λ n. Some n) (sym has.number),
  )
  from_table Memory has = has

pub table_first : (t : TableDef) (records : List Record) → IsFirst (RecordsHave t records) (first_fault t records)
table_first t [] = (inl refl, λ other has. omega arith)
table_first t (header ∷ rows) = at (columns_in (header_of header) t) refl
  where
    at : (o : Option (List Column)) → columns_in (header_of header) t ≡ o
        → IsFirst (RecordsHave t (header ∷ rows)) (option_map_or (λ columns. rows_fault columns (length header) 0 rows) o (Some BadHeader))
    at None is = (inr (sym (have_columns (header_of header) t.columns) ∙ ap is_some is), λ other has. omega arith)
    at (Some columns) is =
        first_of (RowsHave columns (length header) 0 rows) (RecordsHave t (header ∷ rows)) (to_table t header rows columns is) (from_table t header rows columns is)
        (rows_fault columns (length header) 0 rows) (rows_first columns (length header) 0 rows (omega arith))
