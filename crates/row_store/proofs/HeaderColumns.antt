-- The columns that stand in a header, by their kinds and places, and as the definitions of a table say them.
use Rattle.std.proofs.Common.{◌≡◌, refl, sym, ap, subst, ◌∙◌, ℕ, ◌+◌, List, [], ◌∷◌, length, map, Option, Some, None, Bool, true, false, not, cond, arith, nat_eq}
use Rattle.std.specs.Prelude.{option_map, option_and_then, ◌&&◌, if◌then◌else◌}
use Rattle.std.specs.Option.{is_some, is_none, option_map_or}
use Rattle.std.specs.List.{list_all, position, position_from, count_by}
use Rattle.std.proofs.lemmas.Bool.Decides.{nat_tests}
use Rattle.std.proofs.lemmas.List.Sums.{sum_by-cons}
use Rattle.std.proofs.lemmas.Iterator.Adapters.{position_from-zero}
use Rattle.star_model.specs.Vectors.{same_numbers}
use Rattle.star_model.specs.Data.{Record, all_of, header_of, place_in, field_at, value_in, values_at}
use Rattle.star_model.specs.declared.catalogue.TableDef.{TableDef}
use Rattle.star_model.specs.declared.catalogue.ColumnDef.{ColumnDef}
use Rattle.row_store.specs.declared.header.Column.{Column}
use Rattle.row_store.specs.Columns.{column_in}
use Rattle.row_store.specs.Reading.{bad_column}
use Rattle.row_store.specs.Loading.{column_value}
use Rattle.row_store.specs.Faults.{stands_once, lacks_value}
use Rattle.row_store.proofs.Collected.{tail_of}

pub length-header : (fields : Record) → length (header_of fields) ≡ length fields
length-header [] = refl
length-header (f ∷ fs) = refl

-- ---- a column has a place exactly where it stands once

none_counted : {X : Type 0} (p : X → Bool) (i : ℕ) (xs : List X) → position_from p i xs ≡ None → count_by p xs ≡ 0
none_counted p i [] is = refl
none_counted p i (x ∷ xs) is = at (p x) refl is (λ rest. none_counted p (i + 1) xs rest)
  where
    at : (b : Bool) → p x ≡ b → cond b (Some i) (position_from p (i + 1) xs) ≡ None → (position_from p (i + 1) xs ≡ None → count_by p xs ≡ 0) → count_by p (x ∷ xs) ≡ 0
    at true here is law = absurd cc
    at false here is law = sum_by-cons (λ y. cond (p y) 1 0) x xs ∙ ap (λ b. cond b 1 0 + count_by p xs) here ∙ omega (arith, law is)

some_place : (header : Record) (name : List ℕ) → is_some (place_in header name) ≡ nat_eq (count_by (same_numbers name) header) 1
some_place header name = at (nat_eq (count_by (same_numbers name) header) 1) refl (position (same_numbers name) header) refl
  where
    at : (once : Bool) → nat_eq (count_by (same_numbers name) header) 1 ≡ once → (place : Option ℕ) → position (same_numbers name) header ≡ place
        → is_some (if once then place else None) ≡ once
    at false is place at_place = refl
    at true is (Some place) at_place = refl
    at true is None at_place =
        let one : count_by (same_numbers name) header ≡ 1 = grind (arith, nat_tests) in
        let none = none_counted (same_numbers name) 0 header (sym (position_from-zero (same_numbers name) header) ∙ at_place) in
        absurd (omega (arith, one, none))

pub have_columns : (header : Record) (cs : List ColumnDef) → is_some (all_of (map (column_in header) cs)) ≡ list_all (stands_once header) cs
have_columns header [] = refl
have_columns header (c ∷ cs) = at (place_in header c.name) (some_place header c.name) (all_of (map (column_in header) cs)) (have_columns header cs)
  where
    at : (o : Option ℕ) → is_some o ≡ stands_once header c → (later : Option (List Column)) → is_some later ≡ list_all (stands_once header) cs
        → is_some (option_and_then (λ x. option_map (λ xs. x ∷ xs) later) (option_map (λ place. record { kind = c.kind; place = place }) o)) ≡ (stands_once header c && list_all (stands_once header) cs)
    at None here later rest = ap (λ b. b && list_all (stands_once header) cs) here
    at (Some p) here None rest = rest ∙ ap (λ b. b && list_all (stands_once header) cs) here
    at (Some p) here (Some columns) rest = rest ∙ ap (λ b. b && list_all (stands_once header) cs) here

-- ---- places and values

pub in_header : (header : Record) (cs : List ColumnDef) (columns : List Column) → all_of (map (column_in header) cs) ≡ Some columns
    → (all_of (map (λ c. place_in header c.name) cs) ≡ Some (map (λ c. c.place) columns))
    × ((fields : Record) → values_at fields cs (map (λ c. c.place) columns) ≡ map (column_value fields) columns)
in_header header [] [] is = (refl, λ fields. refl)
in_header header [] (x ∷ xs) is = absurd cc
in_header header (c ∷ cs) columns is = at (λ found h. in_header header cs found h) (place_in header c.name) columns is
  where
    at : ((found : List Column) → all_of (map (column_in header) cs) ≡ Some found → (all_of (map (λ c. place_in header c.name) cs) ≡ Some (map (λ c. c.place) found)) × ((fields : Record) → values_at fields cs (map (λ c. c.place) found) ≡ map (column_value fields) found)) → (o : Option ℕ) (columns : List Column)
        → option_and_then (λ x. option_map (λ xs. x ∷ xs) (all_of (map (column_in header) cs))) (option_map (λ place. record { kind = c.kind; place = place }) o) ≡ Some columns
        → (option_and_then (λ x. option_map (λ xs. x ∷ xs) (all_of (map (λ c. place_in header c.name) cs))) o ≡ Some (map (λ c. c.place) columns))
        × ((fields : Record) → values_at fields (c ∷ cs) (map (λ c. c.place) columns) ≡ map (column_value fields) columns)
    at law None columns is = absurd cc
    at law (Some p) columns is =
        let here : Column = record { kind = c.kind; place = p } in
        let tail = tail_of here (all_of (map (column_in header) cs)) columns is in
        let rest = law tail.0 tail.1 in
        subst
        (λ (found : List Column).
        (option_map (λ xs. p ∷ xs) (all_of (map (λ c. place_in header c.name) cs)) ≡ Some (map (λ c. c.place) found))
        × ((fields : Record) → values_at fields (c ∷ cs) (map (λ c. c.place) found) ≡ map (column_value fields) found))
        (sym tail.2)
        (ap (option_map (λ xs. p ∷ xs)) rest.0, λ fields. ap (λ vs. value_in c.kind (field_at fields p) ∷ vs) (rest.1 fields))

-- ---- the first column without a value

pub bad_at : (header fields : Record) (cs : List ColumnDef) (columns : List Column) (before : ℕ) → all_of (map (column_in header) cs) ≡ Some columns
    → bad_column fields before columns ≡ option_map (λ n. n + 1) (position_from (lacks_value header fields) before cs)
bad_at header fields [] [] before is = refl
bad_at header fields [] (x ∷ xs) before is = absurd cc
bad_at header fields (c ∷ cs) columns before is = at (λ found h. bad_at header fields cs found (before + 1) h) (place_in header c.name) columns is
  where
    pick : (value : Bool) (here : ℕ) (later : Option ℕ) (place : Option ℕ) → later ≡ option_map (λ n. n + 1) place
        → (if value then later else Some (here + 1)) ≡ option_map (λ n. n + 1) (cond (not value) (Some here) place)
    pick true here later place is = is
    pick false here later place is = refl

    at : ((found : List Column) → all_of (map (column_in header) cs) ≡ Some found → bad_column fields (before + 1) found ≡ option_map (λ n. n + 1) (position_from (lacks_value header fields) (before + 1) cs)) → (o : Option ℕ) (columns : List Column)
        → option_and_then (λ x. option_map (λ xs. x ∷ xs) (all_of (map (column_in header) cs))) (option_map (λ place. record { kind = c.kind; place = place }) o) ≡ Some columns
        → bad_column fields before columns
        ≡ option_map (λ n. n + 1) (cond (option_map_or (λ place. is_none (value_in c.kind (field_at fields place))) o false) (Some before) (position_from (lacks_value header fields) (before + 1) cs))
    at law None columns is = absurd cc
    at law (Some p) columns is =
        let here : Column = record { kind = c.kind; place = p } in
        let tail = tail_of here (all_of (map (column_in header) cs)) columns is in
        ap (bad_column fields before) tail.2
        ∙ pick (is_some (value_in c.kind (field_at fields p))) before (bad_column fields (before + 1) tail.0) (position_from (lacks_value header fields) (before + 1) cs) (law tail.0 tail.1)

pub bad_first : (t : TableDef) (header fields : Record) (columns : List Column) → all_of (map (column_in header) t.columns) ≡ Some columns
    → bad_column fields 0 columns ≡ option_map (λ n. n + 1) (position (lacks_value header fields) t.columns)
bad_first t header fields columns is =
    bad_at header fields t.columns columns 0 is ∙ ap (option_map (λ n. n + 1)) (sym (position_from-zero (lacks_value header fields) t.columns))
