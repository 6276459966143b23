-- The fault that is found by reading the rows one by one is the first of them.
use Rattle.std.proofs.Common.{◌≡◌, refl, sym, ap, ◌∙◌, ◌⊎◌, inl, inr, ℕ, ◌+◌, ◌*◌, ◌<◌, ◌≤◌, List, [], ◌∷◌, length, Option, Some, None, slice_get, Bool, true, false, arith, nat_eq}
use Prim.Native.Nat.{zero, suc}
use Rattle.std.specs.Prelude.{nat_le, option_map, if◌then◌else◌}
use Rattle.std.specs.Option.{option_or}
use Rattle.std.proofs.lemmas.Bool.Decides.{nat_tests}
use Rattle.star_model.specs.Data.{Record}
use Rattle.row_store.specs.declared.header.Column.{Column}
use Rattle.row_store.specs.declared.fault.TableFault.{TableFault}
use Rattle.row_store.specs.declared.fault.TableFault.TheVariants.{BadHeader, TooManyRows, BadRow, BadField, Memory}
use Rattle.row_store.specs.Faults.{seen_at}
use Rattle.row_store.specs.Reading.{bad_column, rows_fault}

-- what a search for faults finds: the one that is seen first, or none where there is none
abbrev pub IsFirst : (TableFault → Type 0) → Option TableFault → Type 0
IsFirst Has None = (fault : TableFault) → Has fault → ⊥
IsFirst Has (Some fault) = Has fault × ((other : TableFault) → Has other → seen_at fault ≤ seen_at other)

-- faults of one kind are first where those of another are, if these are the same
pub first_of : (Has These : TableFault → Type 0) → ((fault : TableFault) → Has fault → These fault) → ((fault : TableFault) → These fault → Has fault) → (found : Option TableFault)
    → IsFirst Has found → IsFirst These found
first_of Has These to back None none = λ fault has. none fault (back fault has)
first_of Has These to back (Some fault) first = (to fault first.0, λ other has. first.1 other (back other has))

-- the row of this number, where so many stand before these
pub record IsRowBehind (before : ℕ) (rows : List Record) (row : ℕ) (fields : Record) : Type 0 where
  pub place : ℕ
  pub number : row ≡ before + place + 1
  pub is : slice_get rows place ≡ Some fields

module _ (columns : List Column) (count : ℕ) where
  abbrev pub RowsHave : ℕ → List Record → TableFault → Type 0
  RowsHave before rows BadHeader = ⊥
  RowsHave before rows TooManyRows = (fields : Record) × IsRowBehind before rows 200001 fields
  RowsHave before rows (BadRow row) = (fields : Record) × IsRowBehind before rows row fields × (length fields ≡ count → ⊥)
  RowsHave before rows (BadField row column) = (fields : Record) × IsRowBehind before rows row fields × (length fields ≡ count) × (bad_column fields 0 columns ≡ Some column)
  RowsHave before rows Memory = ⊥

module _ (before : ℕ) (this : Record) (rows : List Record) where
  later : (row : ℕ) (fields : Record) → IsRowBehind (before + 1) rows row fields → IsRowBehind before (this ∷ rows) row fields
  later row fields h = record { place = suc h.place; number = omega arith; is = h.is }

  here_or_later : (row : ℕ) (fields : Record) → IsRowBehind before (this ∷ rows) row fields → ((row ≡ before + 1) × (this ≡ fields)) ⊎ IsRowBehind (before + 1) rows row fields
  here_or_later row fields h = at h.place h.number h.is
    where
      at : (place : ℕ) → row ≡ before + place + 1 → slice_get (this ∷ rows) place ≡ Some fields → ((row ≡ before + 1) × (this ≡ fields)) ⊎ IsRowBehind (before + 1) rows row fields
      at zero number is = inl (omega arith, cc)
      at (suc place) number is = inr (record { place = place; number = omega arith; is = is })

  module _ (columns : List Column) (count : ℕ) where
    fault_later : (fault : TableFault) → RowsHave columns count (before + 1) rows fault → RowsHave columns count before (this ∷ rows) fault
    fault_later BadHeader has = has
    fault_later TooManyRows has = (has.0, later 200001 has.0 has.1)
    fault_later (BadRow row) has = (has.0, later row has.0 has.1, has.2)
    fault_later (BadField row column) has = (has.0, later row has.0 has.1, has.2, has.3)
    fault_later Memory has = has

    no_value : {A : Type 0} {x : A} (found : Option A) → found ≡ None → found ≡ Some x → ⊥
    no_value found none some = absurd cc

    -- faults of the rows, where this one has none
    not_here : before < 200000 → length this ≡ count → bad_column this 0 columns ≡ None → (fault : TableFault) → RowsHave columns count before (this ∷ rows) fault → RowsHave columns count (before + 1) rows fault
    not_here room same clear BadHeader has = has
    not_here room same clear TooManyRows has = elim (here_or_later 200001 has.0 has.1) [ inl h ↦ absurd (omega arith) | inr h ↦ (has.0, h) ]
    not_here room same clear (BadRow row) has = elim (here_or_later row has.0 has.1) [ inl h ↦ absurd (has.2 (ap length (sym h.1) ∙ same)) | inr h ↦ (has.0, h, has.2) ]
    not_here room same clear (BadField row column) has =
        elim (here_or_later row has.0 has.1) [ inl h ↦ absurd (no_value (bad_column this 0 columns) clear (ap (λ f. bad_column f 0 columns) h.1 ∙ has.3)) | inr h ↦ (has.0, h, has.2, has.3) ]
    not_here room same clear Memory has = has

    -- no fault is seen before this row
    from_here : before ≤ 200000 → (fault : TableFault) → RowsHave columns count before (this ∷ rows) fault → 3 * (before + 1) ≤ seen_at fault
    from_here few BadHeader has = absurd has
    from_here few TooManyRows has = omega arith
    from_here few (BadRow row) has = omega (arith, has.1)
    from_here few (BadField row column) has = omega (arith, has.1)
    from_here few Memory has = absurd has

    too_many_first : before ≡ 200000 → IsFirst (RowsHave columns count before (this ∷ rows)) (Some TooManyRows)
    too_many_first is = ((this, record { place = 0; number = omega arith; is = refl }), λ other has. omega (arith, from_here (omega arith) other has))

    bad_row_first : before < 200000 → (length this ≡ count → ⊥) → IsFirst (RowsHave columns count before (this ∷ rows)) (Some (BadRow (before + 1)))
    bad_row_first room differ = ((this, record { place = 0; number = omega arith; is = refl }, differ), after)
      where
        after : (other : TableFault) → RowsHave columns count before (this ∷ rows) other → 3 * (before + 1) + 1 ≤ seen_at other
        after BadHeader has = absurd has
        after TooManyRows has = omega arith
        after (BadRow row) has = omega (arith, has.1)
        after (BadField row column) has = omega (arith, has.1)
        after Memory has = absurd has

    bad_field_first : before < 200000 → length this ≡ count → (column : ℕ) → bad_column this 0 columns ≡ Some column → IsFirst (RowsHave columns count before (this ∷ rows)) (Some (BadField (before + 1) column))
    bad_field_first room same column bad = ((this, record { place = 0; number = omega arith; is = refl }, same, bad), after)
      where
        after : (other : TableFault) → RowsHave columns count before (this ∷ rows) other → 3 * (before + 1) + 2 ≤ seen_at other
        after BadHeader has = absurd has
        after TooManyRows has = omega arith
        after (BadRow row) has = elim (here_or_later row has.0 has.1) [ inl h ↦ absurd (has.2 (ap length (sym h.1) ∙ same)) | inr h ↦ omega (arith, h) ]
        after (BadField row other) has = omega (arith, has.1)
        after Memory has = absurd has

pub rows_first : (columns : List Column) (count before : ℕ) (rows : List Record) → before ≤ 200000 → IsFirst (RowsHave columns count before rows) (rows_fault columns count before rows)
rows_first columns count before [] few = none
  where
    none : (fault : TableFault) → RowsHave columns count before [] fault → ⊥
    none BadHeader has = has
    none TooManyRows has = absurd cc
    none (BadRow row) has = let e : None ≡ Some has.0 = (has.1).is in absurd cc
    none (BadField row column) has = let e : None ≡ Some has.0 = (has.1).is in absurd cc
    none Memory has = has
rows_first columns count before (this ∷ rows) few =
    at (nat_le 200000 before) refl (nat_eq (length this) count) refl (bad_column this 0 columns) refl (λ room. rows_first columns count (before + 1) rows room)
  where
    at : (many : Bool) → nat_le 200000 before ≡ many → (same : Bool) → nat_eq (length this) count ≡ same → (bad : Option ℕ) → bad_column this 0 columns ≡ bad
        → (before + 1 ≤ 200000 → IsFirst (RowsHave columns count (before + 1) rows) (rows_fault columns count (before + 1) rows))
        → IsFirst (RowsHave columns count before (this ∷ rows))
        (if many then Some TooManyRows else option_or (if same then option_map (BadField (before + 1)) bad else Some (BadRow (before + 1))) (rows_fault columns count (before + 1) rows))
    at true many same is-same bad is-bad rest = too_many_first before this rows columns count (grind (arith, nat_tests))
    at false many false differ bad is-bad rest = bad_row_first before this rows columns count (grind (arith, nat_tests)) (λ e. grind (arith, nat_tests))
    at false many true same (Some column) bad rest = bad_field_first before this rows columns count (grind (arith, nat_tests)) (grind (arith, nat_tests)) column bad
    at false many true same None clear rest =
        let room : before < 200000 = grind (arith, nat_tests) in
        first_of (RowsHave columns count (before + 1) rows) (RowsHave columns count before (this ∷ rows)) (fault_later before this rows columns count)
        (not_here before this rows columns count room (grind (arith, nat_tests)) clear) (rows_fault columns count (before + 1) rows) (rest (omega arith))
