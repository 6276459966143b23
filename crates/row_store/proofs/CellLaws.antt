-- A value of the rows, by its row and its column.
use Rattle.std.proofs.Common.{◌≡◌, ◌∙◌, sym, ap, refl, add-one, ℤ, Some, None, ℕ, ◌+◌, ◌-◌, ◌<◌, List, [], ◌∷◌, length, map, drop, get_or, slice_get, Option, ◌≤◌, arith, pos}
use Prim.Native.Nat.{zero, suc}
use Rattle.std.specs.Prelude.{unwrap_or, option_map, All}
use Rattle.star_model.specs.declared.catalogue.ColType.TheVariants as type
use Rattle.std.specs.Option.{option_map_or}
use Rattle.std.proofs.lemmas.List.{length-map, length-drop, get_or_past}
use Rattle.star_model.specs.WellFormed.{type_of_value}
use Rattle.star_model.specs.declared.catalogue.ColType.{ColType}
use Rattle.row_store.specs.Indexes.{value_at}
use Rattle.row_store.specs.Comparing.{HaveTypes}
use Rattle.sb_outside.specs.Records.{record_at}
use Rattle.star_model.specs.Data.{Record, integer_in, field_at, value_in}
use Rattle.star_model.specs.declared.catalogue.Value.{Value}
use Rattle.star_model.specs.declared.catalogue.Value.TheVariants as constant
use Rattle.row_store.specs.declared.header.Column.{Column}
use Rattle.row_store.specs.Loading.{column_value, rows_with}

pub at_map : {A B : Type 0} (f : A → B) (xs : List A) (n : ℕ) (d : A) (e : B) → n < length xs → get_or (map f xs) n e ≡ f (get_or xs n d)
at_map f [] n d e within = absurd (omega arith)
at_map f (x ∷ xs) zero d e within = refl
at_map f (x ∷ xs) (suc n) d e within = at_map f xs n d e (omega arith)

row_at : (columns : List Column) (records : List Record) (row : ℕ) → row < length (rows_with columns (drop 1 records))
    → get_or (rows_with columns (drop 1 records)) row [] ≡ map (λ column. unwrap_or (column_value (record_at records (suc row)) column) (constant.Int (pos 0))) columns
row_at columns [] row within = absurd (omega arith)
row_at columns (header ∷ rows) row within =
    at_map (λ fields. map (λ column. unwrap_or (column_value fields column) (constant.Int (pos 0))) columns) rows row [] []
    (omega (arith, length-map rows (λ fields. map (λ column. unwrap_or (column_value fields column) (constant.Int (pos 0))) columns)))

row_count : (columns : List Column) (records : List Record) (row : ℕ) → row < length (rows_with columns (drop 1 records)) → row + 1 < length records
row_count columns [] row within = absurd (omega arith)
row_count columns (header ∷ rows) row within = omega (arith, length-map rows (λ fields. map (λ column. unwrap_or (column_value fields column) (constant.Int (pos 0))) columns))

module _ (columns : List Column) (records : List Record) (rows : List (List Value)) (are : rows_with columns (drop 1 records) ≡ rows) (row : ℕ) (within : row < length rows) where
  inside : row < length (rows_with columns (drop 1 records))
  inside = rw are within

  pub behind_header : row + 1 < length records
  behind_header = row_count columns records row inside

  row_is : get_or rows row [] ≡ map (λ column. unwrap_or (column_value (record_at records (row + 1)) column) (constant.Int (pos 0))) columns
  row_is =
      ap (λ rs. get_or rs row []) (sym are) ∙ row_at columns records row inside
      ∙ ap (λ n. map (λ column. unwrap_or (column_value (record_at records n) column) (constant.Int (pos 0))) columns) (sym (add-one row))

  pub width : length (get_or rows row []) ≡ length columns
  width = ap length row_is ∙ length-map columns (λ column. unwrap_or (column_value (record_at records (row + 1)) column) (constant.Int (pos 0)))

  pub cell_is : (n : ℕ) (column : Column) → n < length (get_or rows row []) → column ≡ get_or columns n column
      → unwrap_or (column_value (record_at records (row + 1)) column) (constant.Int (pos 0)) ≡ get_or (get_or rows row []) n (constant.Int (pos 0))
  cell_is n column here is =
      ap (λ c. unwrap_or (column_value (record_at records (row + 1)) c) (constant.Int (pos 0))) is
      ∙ sym (at_map (λ c. unwrap_or (column_value (record_at records (row + 1)) c) (constant.Int (pos 0))) columns n column (constant.Int (pos 0)) (omega (arith, width)))
      ∙ ap (λ values. get_or values n (constant.Int (pos 0))) (sym row_is)

  pub place_within : (n : ℕ) (column : Column) → n < length (get_or rows row []) → column ≡ get_or columns n column
      → All (λ column. column.place < length (record_at records 0)) columns → ((r : ℕ) → r < length records → length (record_at records r) ≡ length (record_at records 0))
      → column.place < length (record_at records (row + 1))
  place_within n column here is in_range lengths =
      let first : (get_or columns n column).place < length (record_at records 0) = in_range n column (omega (arith, width)) in
      let place : column.place ≡ (get_or columns n column).place = ap (λ (c : Column). c.place) is in
      omega (arith, lengths (row + 1) behind_header)

pub integer_value : (fields : Record) (column : Column) → column.kind ≡ type.Int → (n : ℤ) → Some n ≡ integer_in (field_at fields column.place)
    → constant.Int n ≡ unwrap_or (column_value fields column) (constant.Int (pos 0))
integer_value fields column kind n is =
    ap (λ o. unwrap_or (option_map (λ m. constant.Int m) o) (constant.Int (pos 0))) is ∙ ap (λ k. unwrap_or (value_in k (field_at fields column.place)) (constant.Int (pos 0))) (sym kind)

pub text_value : (fields : Record) (column : Column) → column.kind ≡ type.Text → constant.Text (field_at fields column.place) ≡ unwrap_or (column_value fields column) (constant.Int (pos 0))
text_value fields column kind = ap (λ k. unwrap_or (value_in k (field_at fields column.place)) (constant.Int (pos 0))) (sym kind)

pub row_count_is : (columns : List Column) (records : List Record) (rows : List (List Value)) → rows_with columns (drop 1 records) ≡ rows → length rows ≡ length records - 1
row_count_is columns records rows are =
    ap length (sym are) ∙ length-map (drop 1 records) (λ fields. map (λ column. unwrap_or (column_value fields column) (constant.Int (pos 0))) columns) ∙ length-drop 1 records

-- ---- values by row and column, whether or not there are such

pub past_rows : (rows : List (List Value)) (row column : ℕ) → length rows ≤ row → constant.Int (pos 0) ≡ value_at rows row column
past_rows rows row column past = ap (λ values. get_or values column (constant.Int (pos 0))) (sym (get_or_past rows row [] past))

pub past_columns : (rows : List (List Value)) (row column : ℕ) → length (get_or rows row []) ≤ column → constant.Int (pos 0) ≡ value_at rows row column
past_columns rows row column past = sym (get_or_past (get_or rows row []) column (constant.Int (pos 0)) past)

-- the type of the values in a column
abbrev type_in : List Column → ℕ → ColType
type_in columns n = option_map_or (λ column. column.kind) (slice_get columns n) type.Int

type_of_field : (kind : ColType) (field : List ℕ) → type_of_value (unwrap_or (value_in kind field) (constant.Int (pos 0))) ≡ kind
type_of_field type.Int field = at (integer_in field)
  where
    at : (o : Option ℤ) → type_of_value (unwrap_or (option_map (λ n. constant.Int n) o) (constant.Int (pos 0))) ≡ type.Int
    at None = refl
    at (Some n) = refl
type_of_field type.Text field = refl

type_of_column : (fields : Record) (columns : List Column) (n : ℕ)
    → type_of_value (get_or (map (λ column. unwrap_or (column_value fields column) (constant.Int (pos 0))) columns) n (constant.Int (pos 0))) ≡ type_in columns n
type_of_column fields [] n = refl
type_of_column fields (c ∷ columns) zero = type_of_field c.kind (field_at fields c.place)
type_of_column fields (c ∷ columns) (suc n) = type_of_column fields columns n

pub have_types : (columns : List Column) (records : List Record) (rows : List (List Value)) → rows_with columns (drop 1 records) ≡ rows → HaveTypes rows
have_types columns records rows are = λ a b column first second. at a column first ∙ sym (at b column second)
  where
    at : (row n : ℕ) → row < length rows → type_of_value (value_at rows row n) ≡ type_in columns n
    at row n within =
        ap (λ values. type_of_value (get_or values n (constant.Int (pos 0)))) (row_is columns records rows are row within) ∙ type_of_column (record_at records (row + 1)) columns n
