-- Records have exactly one first fault, or none.
use Rattle.std.proofs.Common.{◌≡◌, refl, sym, ap, subst, ◌∙◌, ◌⊎◌, inl, inr, ℕ, List, Option, Some, None, slice_get, arith}
use Rattle.std.specs.Option.{IsSomeAnd}
use Rattle.std.specs.List.{position}
use Rattle.star_model.specs.Data.{Record}
use Rattle.star_model.specs.declared.catalogue.Catalogue.{Catalogue}
use Rattle.star_model.specs.declared.catalogue.TableDef.{TableDef}
use Rattle.row_store.specs.declared.fault.TableFault.{TableFault}
use Rattle.row_store.specs.declared.fault.TableFault.TheVariants.{BadHeader, TooManyRows, BadRow, BadField, Memory}
use Rattle.row_store.specs.Faults.{header, lacks_value, IsBadField, RecordsHave, seen_at, HasFault, IsFirstFault, HasNoFault}
use Rattle.row_store.specs.Loading.{first_fault}
use Rattle.row_store.proofs.RowsFirst.{IsFirst}
use Rattle.row_store.proofs.Loaded.{first_in}

same_value : {A : Type 0} (x y : A) (found : Option A) → found ≡ Some x → found ≡ Some y → x ≡ y
same_value x y found p q = let e : Some x ≡ Some y = sym p ∙ q in cc

module _ (t : TableDef) (records : List Record) where
  one_column : (row c d : ℕ) → IsBadField t records row c → IsBadField t records row d → c ≡ d
  one_column row c d p q =
      let fields : p.fields ≡ q.fields = same_value p.fields q.fields (slice_get records row) (p.is).is (q.is).is in
      let place : p.place ≡ q.place =
      same_value p.place q.place (position (lacks_value (header records) q.fields) t.columns)
      (ap (λ f. position (lacks_value (header records) f) t.columns) (sym fields) ∙ p.first) q.first in
      omega (arith, p.number, q.number, place)

  -- two faults that are seen at once are one
  same_fault : (f g : TableFault) → RecordsHave t records f → RecordsHave t records g → seen_at f ≡ seen_at g → f ≡ g
  same_fault BadHeader BadHeader p q e = refl
  same_fault BadHeader TooManyRows p q e = absurd (omega (arith, e))
  same_fault BadHeader (BadRow row) p q e = absurd (omega (arith, e))
  same_fault BadHeader (BadField row column) p q e = absurd (omega (arith, e))
  same_fault BadHeader Memory p q e = absurd q
  same_fault TooManyRows BadHeader p q e = absurd (omega (arith, e))
  same_fault TooManyRows TooManyRows p q e = refl
  same_fault TooManyRows (BadRow row) p q e = absurd (omega (arith, e))
  same_fault TooManyRows (BadField row column) p q e = absurd (omega (arith, e))
  same_fault TooManyRows Memory p q e = absurd q
  same_fault (BadRow row) BadHeader p q e = absurd (omega (arith, e))
  same_fault (BadRow row) TooManyRows p q e = absurd (omega (arith, e))
  same_fault (BadRow row) (BadRow other) p q e = let same : row ≡ other = omega (arith, e) in ap BadRow same
  same_fault (BadRow row) (BadField other column) p q e = absurd (omega (arith, e))
  same_fault (BadRow row) Memory p q e = absurd q
  same_fault (BadField row column) BadHeader p q e = absurd (omega (arith, e))
  same_fault (BadField row column) TooManyRows p q e = absurd (omega (arith, e))
  same_fault (BadField row column) (BadRow other) p q e = absurd (omega (arith, e))
  same_fault (BadField row c) (BadField other d) p q e =
      let same : row ≡ other = omega (arith, e) in
      let columns = one_column other c d (subst (λ r. IsBadField t records r c) same p) q in
      (λ i. BadField (same i) (columns i))
  same_fault (BadField row column) Memory p q e = absurd q
  same_fault Memory g p q e = absurd p

module _ (c : Catalogue) (n : ℕ) (records : List Record) where
  pub one_fault : (f g : TableFault) → IsFirstFault c n records f → IsFirstFault c n records g → f ≡ g
  one_fault f g p q = at (slice_get c.tables n) p.has q.has
    where
      at_once : seen_at f ≡ seen_at g
      at_once = omega (arith, p.first g q.has, q.first f p.has)

      at : (o : Option TableDef) → IsSomeAnd o (λ t. RecordsHave t records f) → IsSomeAnd o (λ t. RecordsHave t records g) → f ≡ g
      at None has other = absurd has
      at (Some t) has other = same_fault t records f g has other at_once

  pub one_or_none : HasNoFault c n records ⊎ ((fault : TableFault) × IsFirstFault c n records fault)
  one_or_none = at (slice_get c.tables n) refl
    where
      found : (o : Option TableFault) → IsFirst (HasFault c n records) o → HasNoFault c n records ⊎ ((fault : TableFault) × IsFirstFault c n records fault)
      found None none = inl none
      found (Some fault) first = inr (fault, record { has = first.0; first = first.1 })

      no_table : slice_get c.tables n ≡ None → HasNoFault c n records
      no_table none fault has = subst (λ (o : Option TableDef). IsSomeAnd o (λ t. RecordsHave t records fault)) none has

      at : (o : Option TableDef) → slice_get c.tables n ≡ o → HasNoFault c n records ⊎ ((fault : TableFault) × IsFirstFault c n records fault)
      at None none = inl (no_table none)
      at (Some t) is = found (first_fault t records) (first_in c n t records is)
