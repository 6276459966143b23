-- The integers that a table keeps of its columns are those of its records.
use Rattle.std.proofs.Common.{◌≡◌, ◌∙◌, sym, ap, refl, add-one, ℤ, Some, ℕ, ◌+◌, ◌<◌, List, [], ◌∷◌, length, map, drop, get_or, arith}
use Rattle.std.proofs.lemmas.List.{length-map, length-drop}
use Rattle.sb_outside.specs.Records.{record_at}
use Rattle.star_model.specs.Data.{Record, integer_in, field_at}
use Rattle.star_model.specs.declared.catalogue.ColType.TheVariants as type
use Rattle.row_store.specs.declared.header.Column.{Column}
use Rattle.row_store.specs.Numbers.{if_integers, integers_in}
use Rattle.row_store.proofs.CellLaws.{at_map}

behind : (records : List Record) (row : ℕ) → record_at (drop 1 records) row ≡ record_at records (row + 1)
behind [] row = refl
behind (header ∷ rows) row = ap (record_at (header ∷ rows)) (sym (add-one row))

module _ {V : Type 0} (items : V → List ℤ) (numbers : List V) (columns : List Column) (records : List Record)
    (kept : map (λ v. map (λ n. Some n) (items v)) numbers ≡ map (integers_in (drop 1 records)) columns) where
  pub as_many : length numbers ≡ length columns
  as_many = sym (length-map numbers (λ v. map (λ n. Some n) (items v))) ∙ ap length kept ∙ length-map columns (integers_in (drop 1 records))

  module _ (place : ℕ) (column : Column) (v : V) (within : place < length columns) (column_is : column ≡ get_or columns place column) (v_is : v ≡ get_or numbers place v)
      (kind : column.kind ≡ type.Int) where
    integers : map (λ n. Some n) (items v) ≡ map (λ fields. integer_in (field_at fields column.place)) (drop 1 records)
    integers =
        ap (λ w. map (λ n. Some n) (items w)) v_is
        ∙ sym (at_map (λ w. map (λ n. Some n) (items w)) numbers place v [] (omega (arith, as_many)))
        ∙ ap (λ lists. get_or lists place []) kept
        ∙ at_map (integers_in (drop 1 records)) columns place column [] within
        ∙ ap (integers_in (drop 1 records)) (sym column_is)
        ∙ ap (λ k. if_integers k (map (λ fields. integer_in (field_at fields column.place)) (drop 1 records))) kind

    one_for_each : length (items v) ≡ length (drop 1 records)
    one_for_each = sym (length-map (items v) (λ n. Some n)) ∙ ap length integers ∙ length-map (drop 1 records) (λ fields. integer_in (field_at fields column.place))

    pub has_number : (row : ℕ) → row + 1 < length records → row < length (items v)
    has_number row here = omega (arith, one_for_each, length-drop 1 records)

    pub number_is : (row : ℕ) (number : ℤ) → row + 1 < length records → number ≡ get_or (items v) row number
        → Some number ≡ integer_in (field_at (record_at records (row + 1)) column.place)
    number_is row number here is =
        ap (λ n. Some n) is
        ∙ sym (at_map (λ n. Some n) (items v) row number (Some number) (has_number row here))
        ∙ ap (λ os. get_or os row (Some number)) integers
        ∙ at_map (λ fields. integer_in (field_at fields column.place)) (drop 1 records) row [] (Some number) (omega (arith, length-drop 1 records))
        ∙ ap (λ fields. integer_in (field_at fields column.place)) (behind records row)
