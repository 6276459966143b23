-- Names that are found in lists of names, and names that differ.
use Rattle.std.proofs.Common.{◌≡◌, ℕ, zero, suc, Bool, true, false, not, nat_eq, List, [], ◌∷◌, ◌++◌, map, length, Option, Some, None, refl, sym, ap, ◌∙◌, subst, eq-eqb}
use Rattle.std.specs.Prelude.{slice_get}
use Rattle.std.specs.List.{list_all}
use Rattle.std.specs.Option.{option_map}
use Rattle.std.proofs.Math.Seq.{take-append_seam}
use Rattle.std.proofs.lemmas.Bool.{and_parts, and_from, both_ways, not_from_false, not-true}
use Rattle.star_model.specs.Vectors.{same_numbers}
use Rattle.star_model.specs.WellFormed.{differ, Each, more}
use Rattle.star_model.specs.Names.{is_among, place_of}
use Rattle.spelling.specs.Names.{all_of}
use Rattle.catalogue.proofs.DifferLaws.{repeats}
use Rattle.catalogue.proofs.Places.{among_found}
use Rattle.star_model.proofs.Laws.{same_are}

-- ---- lists of names that are found

-- the places of the names, where each is found
abbrev pub places_of : List (List ℕ) → List (List ℕ) → Option (List ℕ)
places_of names wanted = all_of (map (λ name. place_of name names) wanted)

record FirstPlace (names : List (List ℕ)) (name : List ℕ) (later : List (List ℕ)) (places : List ℕ) : Type 0 where
  place : ℕ
  others : List ℕ
  found : place_of name names ≡ Some place
  more_found : places_of names later ≡ Some others
  are : places ≡ place ∷ others

first_place : (names : List (List ℕ)) (name : List ℕ) (later : List (List ℕ)) (places : List ℕ) → places_of names (name ∷ later) ≡ Some places → FirstPlace names name later places
first_place names name later places all = at_place (place_of name names) refl all
  where
    at_later : (place : ℕ) → place_of name names ≡ Some place → (found : Option (List ℕ)) → places_of names later ≡ found → option_map {U = List ℕ} (λ xs. place ∷ xs) found ≡ Some places
        → FirstPlace names name later places
    at_later place is None e o = absurd cc
    at_later place is (Some others) e o = let same : place ∷ others ≡ places = cc in record { place = place; others = others; found = is; more_found = e; are = sym same }

    at_place : (found : Option ℕ) → place_of name names ≡ found → all_of (found ∷ map (λ n. place_of n names) later) ≡ Some places → FirstPlace names name later places
    at_place None e o = absurd cc
    at_place (Some place) e o = at_later place e (places_of names later) refl o

pub each_known : (names wanted : List (List ℕ)) (places : List ℕ) → places_of names wanted ≡ Some places → list_all (is_among names) wanted ≡ true
each_known names [] places all = refl
each_known names (name ∷ later) places all =
    let first = first_place names name later places all in
    and_from (is_among names name) (list_all (is_among names) later) (among_found name names first.place first.found) (each_known names later first.others first.more_found)

pub as_many : (names wanted : List (List ℕ)) (places : List ℕ) → places_of names wanted ≡ Some places → length places ≡ length wanted
as_many names [] places all = let none_found : [] ≡ places = cc in ap (λ (l : List ℕ). length l) (sym none_found)
as_many names (name ∷ later) places all =
    let first = first_place names name later places all in
    ap (λ (l : List ℕ). length l) first.are ∙ ap suc (as_many names later first.others first.more_found)

-- a name that isn't at a place isn't the one that is found there
other_place : (names : List (List ℕ)) (name : List ℕ) (place : ℕ) → place_of name names ≡ Some place → (wanted : List (List ℕ)) (places : List ℕ) → places_of names wanted ≡ Some places
    → list_all (λ q. not (nat_eq place q)) places ≡ true → list_all (λ other. not (same_numbers name other)) wanted ≡ true
other_place names name place found [] places all differs = refl
other_place names name place found (other ∷ later) places all differs =
    let first = first_place names other later places all in
    let parts = and_parts (not (nat_eq place first.place)) (list_all (λ q. not (nat_eq place q)) first.others) (ap (list_all (λ q. not (nat_eq place q))) (sym first.are) ∙ differs) in
    and_from (not (same_numbers name other)) (list_all (λ o. not (same_numbers name o)) later)
    (not_from_false (same_numbers name other) (at (same_numbers name other) refl (not-true (nat_eq place first.place) parts.0) first.found))
    (other_place names name place found later first.others first.more_found parts.1)
  where
    at : (b : Bool) → same_numbers name other ≡ b → {p : ℕ} → nat_eq place p ≡ false → place_of other names ≡ Some p → b ≡ false
    at false same apart there = refl
    at true same {p} apart there =
        let both : Some place ≡ Some p = sym found ∙ ap (λ n. place_of n names) (same_are name other same) ∙ there in
        let one : place ≡ p = cc in
        absurd (both_ways (nat_eq place p) apart (ap (nat_eq place) (sym one) ∙ eq-eqb place place refl))

-- names whose places differ do
pub names_differ : (names wanted : List (List ℕ)) (places : List ℕ) → places_of names wanted ≡ Some places → differ nat_eq places ≡ true → differ same_numbers wanted ≡ true
names_differ names [] places all differs = refl
names_differ names (name ∷ later) places all differs =
    let first = first_place names name later places all in
    let parts = and_parts (list_all (λ q. not (nat_eq first.place q)) first.others) (differ nat_eq first.others) (ap (differ nat_eq) (sym first.are) ∙ differs) in
    and_from (list_all (λ other. not (same_numbers name other)) later) (differ same_numbers later)
    (other_place names name first.place first.found later first.others first.more_found parts.0) (names_differ names later first.others first.more_found parts.1)

-- ---- an item within a list

seam : {A : Type 0} (xs : List A) (x : A) (ys : List A) → slice_get (xs ++ x ∷ ys) (length xs) ≡ Some x
seam [] x ys = refl
seam (y ∷ xs) x ys = seam xs x ys

-- where names differ, no earlier one is this one
pub new_name : (xs : List (List ℕ)) (x : List ℕ) (ys : List (List ℕ)) → differ same_numbers (xs ++ x ∷ ys) ≡ true → is_among xs x ≡ false
new_name xs x ys differs = at (is_among xs x) refl
  where
    at : (b : Bool) → is_among xs x ≡ b → b ≡ false
    at false is = refl
    at true is =
        absurd (both_ways (differ same_numbers (xs ++ x ∷ ys)) (repeats (xs ++ x ∷ ys) (length xs) x (seam xs x ys) (ap (λ l. is_among l x) (take-append_seam xs (x ∷ ys)) ∙ is)) differs)

pub each_within : {A : Type 0} {P : A → Type 0} (xs : List A) (x : A) (ys : List A) → Each P (xs ++ x ∷ ys) → P x
each_within [] x ys (more _ _ holds later) = holds
each_within (y ∷ xs) x ys (more _ _ holds later) = each_within xs x ys later

pub all_within : {A : Type 0} (test : A → Bool) (xs : List A) (x : A) (ys : List A) → list_all test (xs ++ x ∷ ys) ≡ true → test x ≡ true
all_within test [] x ys all = (and_parts (test x) (list_all test ys) all).0
all_within test (y ∷ xs) x ys all = all_within test xs x ys (and_parts (test y) (list_all test (xs ++ x ∷ ys)) all).1

pub each_placed : {A : Type 0} {P : A → Type 0} (xs : List A) (place : ℕ) (x : A) → Each P xs → slice_get xs place ≡ Some x → P x
each_placed [] place x holds at = absurd cc
each_placed {P = P} (y ∷ xs) zero x (more _ _ holds later) at = let same : y ≡ x = cc in subst P same holds
each_placed (y ∷ xs) (suc place) x (more _ _ holds later) at = each_placed xs place x later at

pub all_placed : {A : Type 0} (test : A → Bool) (xs : List A) (place : ℕ) (x : A) → list_all test xs ≡ true → slice_get xs place ≡ Some x → test x ≡ true
all_placed test [] place x all at = absurd cc
all_placed test (y ∷ xs) zero x all at = let same : y ≡ x = cc in ap test (sym same) ∙ (and_parts (test y) (list_all test xs) all).0
all_placed test (y ∷ xs) (suc place) x all at = all_placed test xs place x (and_parts (test y) (list_all test xs) all).1 at

pub place_before : {A : Type 0} (xs ys : List A) (place : ℕ) (x : A) → slice_get xs place ≡ Some x → slice_get (xs ++ ys) place ≡ Some x
place_before [] ys place x at = absurd cc
place_before (y ∷ xs) ys zero x at = at
place_before (y ∷ xs) ys (suc place) x at = place_before xs ys place x at
