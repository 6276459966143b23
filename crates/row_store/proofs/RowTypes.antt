-- The values of a row have the types of the table's columns.
use Rattle.std.proofs.Common.{◌≡◌, refl, sym, ap, subst, ◌∙◌, ℕ, List, [], ◌∷◌, length, map, Option, Some, None, slice_get, ℤ, Bool, true, false, nat_eq}
use Rattle.std.specs.Prelude.{All, nat_le, option_map, option_and_then, if◌then◌else◌}
use Rattle.std.proofs.lemmas.List.Elements.{All-nil, All-cons}
use Rattle.star_model.specs.WellFormed.{type_of_value}
use Rattle.star_model.specs.Data.{Record, all_of, header_of, integer_in, place_in, places_in, field_at, value_in, values_at, row_in, rows_in, table_rows}
use Rattle.star_model.specs.declared.catalogue.Catalogue.{Catalogue}
use Rattle.star_model.specs.declared.catalogue.TableDef.{TableDef}
use Rattle.star_model.specs.declared.catalogue.ColumnDef.{ColumnDef}
use Rattle.star_model.specs.declared.catalogue.ColType.{ColType}
use Rattle.star_model.specs.declared.catalogue.ColType.TheVariants as type
use Rattle.star_model.specs.declared.catalogue.Value.{Value}
use Rattle.star_model.specs.declared.catalogue.Value.TheVariants as constant
use Rattle.row_store.proofs.Collected.{tail_of}

-- what all of them are has what each has
module _ {A X : Type 0} (P : A → Type 0) (meaning : X → Option A) (has : (x : X) (a : A) → meaning x ≡ Some a → P a) where
  all_have : (items : List X) (found : List A) → all_of (map meaning items) ≡ Some found → All P found
  all_have [] [] is = All-nil P
  all_have [] (a ∷ found) is = absurd cc
  all_have (x ∷ items) found is = at (meaning x) refl is (λ later rest. all_have items later rest)
    where
      at : (o : Option A) → meaning x ≡ o → option_and_then (λ y. option_map (λ ys. y ∷ ys) (all_of (map meaning items))) o ≡ Some found
          → ((later : List A) → all_of (map meaning items) ≡ Some later → All P later) → All P found
      at None none is law = absurd cc
      at (Some a) here is law =
          let tail = tail_of a (all_of (map meaning items)) found is in
          subst (All P) (sym tail.2) (All-cons P a tail.0 (has x a here) (law tail.0 tail.1))

value_type : (kind : ColType) (field : List ℕ) (v : Value) → value_in kind field ≡ Some v → type_of_value v ≡ kind
value_type type.Int field v is = at (integer_in field) is
  where
    at : (o : Option ℤ) → option_map (λ n. constant.Int n) o ≡ Some v → type_of_value v ≡ type.Int
    at None is = absurd cc
    at (Some n) is = let same : constant.Int n ≡ v = cc in ap type_of_value (sym same)
value_type type.Text field v is = let same : constant.Text field ≡ v = cc in ap type_of_value (sym same)

types_of : (fields : Record) (cs : List ColumnDef) (header : Record) (places : List ℕ) (row : List Value) → all_of (map (λ c. place_in header c.name) cs) ≡ Some places
    → all_of (values_at fields cs places) ≡ Some row → map type_of_value row ≡ map (λ c. c.kind) cs
types_of fields [] header places [] found is = refl
types_of fields [] header places (v ∷ row) found is = absurd cc
types_of fields (c ∷ cs) header places row found is = at (place_in header c.name) found (λ later row found is. types_of fields cs header later row found is)
  where
    same_lists : (p : ℕ) (later : List ℕ) → places ≡ p ∷ later → all_of (values_at fields (c ∷ cs) (p ∷ later)) ≡ Some row
    same_lists p later e = ap (λ ps. all_of (values_at fields (c ∷ cs) ps)) (sym e) ∙ is

    values : (v : Option Value) (field : List ℕ) → value_in c.kind field ≡ v → (later : Option (List Value)) → option_and_then (λ x. option_map (λ xs. x ∷ xs) later) v ≡ Some row
        → ((found : List Value) → later ≡ Some found → map type_of_value found ≡ map (λ c. c.kind) cs) → map type_of_value row ≡ map (λ c. c.kind) (c ∷ cs)
    values None field here later is law = absurd cc
    values (Some v) field here later is law =
        let tail = tail_of v later row is in
        let head = value_type c.kind field v here in
        let rest = law tail.0 tail.1 in
        ap (map type_of_value) tail.2 ∙ (λ i. head i ∷ rest i)

    at : (o : Option ℕ) → option_and_then (λ x. option_map (λ xs. x ∷ xs) (all_of (map (λ c. place_in header c.name) cs))) o ≡ Some places
        → ((later : List ℕ) (row : List Value) → all_of (map (λ c. place_in header c.name) cs) ≡ Some later → all_of (values_at fields cs later) ≡ Some row → map type_of_value row ≡ map (λ c. c.kind) cs)
        → map type_of_value row ≡ map (λ c. c.kind) (c ∷ cs)
    at None found law = absurd cc
    at (Some p) found law =
        let tail = tail_of p (all_of (map (λ c. place_in header c.name) cs)) places found in
        values (value_in c.kind (field_at fields p)) (field_at fields p) refl (all_of (values_at fields cs tail.0)) (same_lists p tail.0 tail.2) (λ row is. law tail.0 row tail.1 is)

module _ (t : TableDef) (rows : List (List Value)) where
  abbrev AreTyped : Type 0
  AreTyped = All (λ row. map type_of_value row ≡ map (λ c. c.kind) t.columns) rows

  rows_typed : (header : Record) (records : List Record) → rows_in t header records ≡ Some rows → AreTyped
  rows_typed header records is = at (places_in t header) refl is
    where
      row_typed : (places : List ℕ) → places_in t header ≡ Some places → (fields : Record) (row : List Value) → row_in t (length header) places fields ≡ Some row → map type_of_value row ≡ map (λ c. c.kind) t.columns
      row_typed places found fields row is = counted (nat_eq (length fields) (length header)) is
        where
          counted : (same : Bool) → (if same then all_of (values_at fields t.columns places) else None) ≡ Some row → map type_of_value row ≡ map (λ c. c.kind) t.columns
          counted true is = types_of fields t.columns header places row found is
          counted false is = absurd cc

      few : (places : List ℕ) → places_in t header ≡ Some places → (enough : Bool) → (if enough then all_of (map (row_in t (length header) places) records) else None) ≡ Some rows → AreTyped
      few places found true is = all_have (λ row. map type_of_value row ≡ map (λ c. c.kind) t.columns) (row_in t (length header) places) (row_typed places found) records rows is
      few places found false is = absurd cc

      at : (o : Option (List ℕ)) → places_in t header ≡ o → option_and_then (λ places. if nat_le (length records) 200000 then all_of (map (row_in t (length header) places) records) else None) o ≡ Some rows → AreTyped
      at None found is = absurd cc
      at (Some places) found is = few places found (nat_le (length records) 200000) is

pub rows_fit : (c : Catalogue) (n : ℕ) (records : List Record) (t : TableDef) (rows : List (List Value)) → slice_get c.tables n ≡ Some t → table_rows c n records ≡ Some rows
    → All (λ row. map type_of_value row ≡ map (λ c. c.kind) t.columns) rows
rows_fit c n [] t rows at is = absurd cc
rows_fit c n (header ∷ records) t rows at is = rows_typed t rows (header_of header) records (ap (option_and_then (λ t. rows_in t (header_of header) records)) (sym at) ∙ is)
