-- Looking bytes up in a table.
use Rattle.std.proofs.Common.{◌≡◌, ℕ, suc, ◌+◌, ◌<◌, ◌≤◌, Bool, if◌then◌else◌, List, length, drop, get_or, sym, ap, ◌∙◌, ◌∷◌, add-one, drop-cons}
use Rattle.std.proofs.lemmas.List.{at_drop_all}
use denote.Ref.{Bor}
use Rattle.spelling.specs.Names.{found_in}
use Rattle.star_model.specs.Vectors.{same_numbers}
use Rattle.spelling.specs.Tables.{spellings}

module _ {A : Type 0} (other : A) where
  -- what is found from a row on
  pub from_row : (rows : List (Bor (List ℕ) × A)) (i : ℕ) (row : Bor (List ℕ) × A) (bytes : List ℕ) (b : Bool) → i < length rows → row ≡ get_or rows i row → b ≡ same_numbers row.0.now bytes
      → found_in other (spellings (drop i rows)) bytes ≡ (if b then row.1 else found_in other (spellings (drop (i + 1) rows)) bytes)
  from_row rows i row bytes b lt is same =
      rw (drop-cons rows i row, add-one i) (ap (λ (r : Bor (List ℕ) × A). found_in other (spellings (r ∷ drop (suc i) rows)) bytes) (sym is) ∙ ap (λ c. if c then row.1 else found_in other (spellings (drop (suc i) rows)) bytes) (sym same))

  pub behind_rows : (rows : List (Bor (List ℕ) × A)) (i : ℕ) (bytes : List ℕ) → length rows ≤ i → found_in other (spellings (drop i rows)) bytes ≡ other
  behind_rows rows i bytes le = at_drop_all (λ l. found_in other (spellings l) bytes) rows i le
