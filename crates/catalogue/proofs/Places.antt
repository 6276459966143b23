-- Names that are among others stand at a place.
use Rattle.std.proofs.Common.{◌≡◌, ◌<◌, ℕ, suc, ◌+◌, Bool, true, false, List, [], ◌∷◌, ◌++◌, map, length, Some, refl, sym, ap, ◌∙◌, subst, arith}
use Rattle.std.specs.Prelude.{◌||◌, slice_get}
use Rattle.std.specs.List.{list_all, position_from}
use Rattle.std.specs.Cmp.Lexicographic.{same_text}
use Rattle.std.proofs.lemmas.Bool.{and_parts, or_parts}
use Rattle.star_model.specs.Vectors.{same_numbers}
use Rattle.star_model.specs.Names.{is_among, place_of}
use Rattle.spelling.specs.Names.{all_of}
use Rattle.star_model.proofs.Laws.{same_self}

-- ---- one name

-- the name has this place, counted from k
record StandsFrom (name : List ℕ) (k : ℕ) (names : List (List ℕ)) (place : ℕ) : Type 0 where
  pub is : position_from (same_numbers name) k names ≡ Some (k + place)
  pub within : place < length names
  pub there : slice_get names place ≡ Some name

behind : (name : List ℕ) (k : ℕ) (x : List ℕ) (names : List (List ℕ)) → same_numbers name x ≡ false → (place : ℕ) × StandsFrom name (k + 1) names place → (place : ℕ) × StandsFrom name k (x ∷ names) place
behind name k x names other found =
    let e : k + 1 + found.0 ≡ k + suc found.0 = omega arith in
    (suc found.0, record { is = rw other (found.1.is ∙ ap (λ m. Some m) e); within = omega (arith, found.1.within); there = found.1.there })

stands : (name : List ℕ) (k : ℕ) (names : List (List ℕ)) → is_among names name ≡ true → (place : ℕ) × StandsFrom name k names place
stands name k [] among = absurd cc
stands name k (x ∷ names) among = at (same_numbers name x) refl (λ later. stands name (k + 1) names later) where
  at : (b : Bool) → same_numbers name x ≡ b → (is_among names name ≡ true → (place : ℕ) × StandsFrom name (k + 1) names place) → (place : ℕ) × StandsFrom name k (x ∷ names) place
  at true same later =
      let e : k ≡ k + 0 = omega arith in
      (0, record { is = rw same (ap (λ m. Some m) e); within = omega arith; there = ap (λ (n : List ℕ). Some n) (sym (same_text name x (sym same))) })
  at false other later = behind name k x names other (later (ap (λ b. b || is_among names name) (sym other) ∙ among))

pub record Stands (name : List ℕ) (names : List (List ℕ)) (place : ℕ) : Type 0 where
  pub is : place_of name names ≡ Some place
  pub within : place < length names
  pub there : slice_get names place ≡ Some name

pub placed : (name : List ℕ) (names : List (List ℕ)) → is_among names name ≡ true → (place : ℕ) × Stands name names place
placed name names among =
    let found = stands name 0 names among in
    let e : 0 + found.0 ≡ found.0 = omega arith in
    (found.0, record { is = found.1.is ∙ ap (λ m. Some m) e; within = found.1.within; there = found.1.there })

found_among : (name : List ℕ) (k : ℕ) (names : List (List ℕ)) (place : ℕ) → position_from (same_numbers name) k names ≡ Some place → is_among names name ≡ true
found_among name k [] place is = absurd cc
found_among name k (x ∷ names) place is = at (same_numbers name x) refl (λ later. found_among name (k + 1) names place later) where
  at : (b : Bool) → same_numbers name x ≡ b → (position_from (same_numbers name) (k + 1) names ≡ Some place → is_among names name ≡ true) → is_among (x ∷ names) name ≡ true
  at true same later = rw same refl
  at false other later = rw other (later (rw other at is))

pub among_found : (name : List ℕ) (names : List (List ℕ)) (place : ℕ) → place_of name names ≡ Some place → is_among names name ≡ true
among_found name names place is = found_among name 0 names place is

some_is : (p q : ℕ) → Some p ≡ Some q → p ≡ q
some_is p q e = cc

-- what a place that was found says
pub found_place : (name : List ℕ) (names : List (List ℕ)) (place : ℕ) → place_of name names ≡ Some place → Stands name names place
found_place name names place is =
    let found = placed name names (found_among name 0 names place is) in
    subst (λ (p : ℕ). Stands name names p) (some_is found.0 place (sym found.1.is ∙ is)) found.1

-- ---- one name more

placed_before : (name : List ℕ) (k : ℕ) (names more : List (List ℕ)) → is_among names name ≡ true → position_from (same_numbers name) k (names ++ more) ≡ position_from (same_numbers name) k names
placed_before name k [] more among = absurd cc
placed_before name k (x ∷ names) more among = at (same_numbers name x) refl (λ later. placed_before name (k + 1) names more later) where
  at : (b : Bool) → same_numbers name x ≡ b → (is_among names name ≡ true → position_from (same_numbers name) (k + 1) (names ++ more) ≡ position_from (same_numbers name) (k + 1) names)
      → position_from (same_numbers name) k (x ∷ names ++ more) ≡ position_from (same_numbers name) k (x ∷ names)
  at true same later = rw same refl
  at false other later = rw other (later (ap (λ b. b || is_among names name) (sym other) ∙ among))

placed_last : (name : List ℕ) (k : ℕ) (names : List (List ℕ)) → is_among names name ≡ false → position_from (same_numbers name) k (names ++ name ∷ []) ≡ Some (k + length names)
placed_last name k [] new = let e : k ≡ k + 0 = omega arith in rw (same_self name) (ap (λ m. Some m) e)
placed_last name k (x ∷ names) new =
    let p = or_parts (same_numbers name x) (is_among names name) new in
    let e : k + 1 + length names ≡ k + suc (length names) = omega arith in
    rw p.0 (placed_last name (k + 1) names p.1 ∙ ap (λ m. Some m) e)

pub still_placed : (name : List ℕ) (names more : List (List ℕ)) → is_among names name ≡ true → place_of name (names ++ more) ≡ place_of name names
still_placed name names more among = placed_before name 0 names more among

pub placed_new : (name : List ℕ) (names : List (List ℕ)) → is_among names name ≡ false → place_of name (names ++ name ∷ []) ≡ Some (length names)
placed_new name names new = let e : 0 + length names ≡ length names = omega arith in placed_last name 0 names new ∙ ap (λ m. Some m) e

-- ---- several names

pub data StandAll (names : List (List ℕ)) : List (List ℕ) → List ℕ → Type 0 where
  none : StandAll names [] []
  more : (name : List ℕ) (later : List (List ℕ)) (place : ℕ) (places : List ℕ) → Stands name names place → StandAll names later places → StandAll names (name ∷ later) (place ∷ places)

pub all_stand : (names these : List (List ℕ)) → list_all (is_among names) these ≡ true → (places : List ℕ) × StandAll names these places
all_stand names [] among = ([], none)
all_stand names (name ∷ these) among =
    let p = and_parts (is_among names name) (list_all (is_among names) these) among in
    let first = placed name names p.0 in
    let later = all_stand names these p.1 in
    (first.0 ∷ later.0, more name these first.0 later.0 first.1 later.1)

pub all_of_places : (names these : List (List ℕ)) (places : List ℕ) → StandAll names these places → all_of (map (λ name. place_of name names) these) ≡ Some places
all_of_places names _ _ none = refl
all_of_places names _ _ (more name these place places first later) = rw (first.is, all_of_places names these places later) refl
