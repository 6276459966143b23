-- Whether names differ, name by name.
use Rattle.std.proofs.Common.{◌≡◌, ℕ, ◌+◌, Bool, true, false, not, List, [], ◌∷◌, ◌++◌, take, drop, Some, refl, sym, ap, ◌∙◌, take-append-drop}
use Rattle.std.specs.Prelude.{◌&&◌, ◌||◌, slice_get}
use Rattle.std.specs.List.{list_all}
use Rattle.std.specs.Cmp.Lexicographic.{same_text}
use Rattle.std.proofs.lemmas.Bool.{and_parts, and_from, not_from_true, both_ways, not-true, not-false}
use Rattle.std.proofs.lemmas.List.Folds.{list_all-append}
use Rattle.star_model.specs.Vectors.{same_numbers}
use Rattle.star_model.specs.WellFormed.{differ}
use Rattle.star_model.specs.Names.{is_among}
use Rattle.catalogue.specs.NameSets.{with_name}
use Rattle.catalogue.proofs.FirstLaws.{take_one}
use Rattle.star_model.proofs.Laws.{same_self}

same_sym : (a b : List ℕ) → same_numbers a b ≡ same_numbers b a
same_sym a b = at (same_numbers a b) (same_numbers b a) refl refl where
  at : (x y : Bool) → same_numbers a b ≡ x → same_numbers b a ≡ y → x ≡ y
  at true true p q = refl
  at false false p q = refl
  at true false p q = absurd (both_ways _ q (ap (λ (l : List ℕ). same_numbers l a) (sym (same_text a b (sym p))) ∙ same_self a))
  at false true p q = absurd (both_ways _ p (ap (λ (l : List ℕ). same_numbers l b) (sym (same_text b a (sym q))) ∙ same_self b))

abbrev names_differ : List (List ℕ) → Bool
names_differ names = differ same_numbers names

-- one more name at the end
swapped : (p q r s : Bool) → ((p && not q) && (r && not s)) ≡ ((p && r) && not (q || s))
swapped false q r s = refl
swapped true false r s = refl
swapped true true true s = refl
swapped true true false s = refl

other_than : List ℕ → List ℕ → Bool
other_than x y = not (same_numbers x y)

pub differ_more : (xs : List (List ℕ)) (x : List ℕ) → differ same_numbers (xs ++ x ∷ []) ≡ (differ same_numbers xs && not (is_among xs x))
differ_more [] x = refl
differ_more (y ∷ xs) x =
    ap (λ b. b && differ same_numbers (xs ++ x ∷ [])) (list_all-append (λ z. not (same_numbers y z)) xs (x ∷ []) ∙ ap (λ b. list_all (λ z. not (same_numbers y z)) xs && b) (last (same_numbers y x) ∙ ap not (same_sym y x)))
    ∙ ap (λ b. (list_all (λ z. not (same_numbers y z)) xs && not (same_numbers x y)) && b) (differ_more xs x)
    ∙ swapped (list_all (λ z. not (same_numbers y z)) xs) (same_numbers x y) (differ same_numbers xs) (is_among xs x) where
      last : (b : Bool) → (not b && true) ≡ not b
      last true = refl
      last false = refl

differ_front : (xs ys : List (List ℕ)) → differ same_numbers (xs ++ ys) ≡ true → differ same_numbers xs ≡ true
differ_front [] ys d = refl
differ_front (x ∷ xs) ys d =
    let p = and_parts _ _ d in
    let q = and_parts _ _ (sym (list_all-append (λ z. not (same_numbers x z)) xs ys) ∙ p.0) in
    and_from _ _ q.0 (differ_front xs ys p.1)

pub differs_more : (names : List (List ℕ)) (i : ℕ) (x : List ℕ) → slice_get names i ≡ Some x → differ same_numbers (take i names) ≡ true → is_among (take i names) x ≡ false
    → differ same_numbers (take (i + 1) names) ≡ true
differs_more names i x is d new = rw (take_one names i x is, differ_more (take i names) x, d, new) refl

pub repeats : (names : List (List ℕ)) (i : ℕ) (x : List ℕ) → slice_get names i ≡ Some x → is_among (take i names) x ≡ true → differ same_numbers names ≡ false
repeats names i x is again = at (differ same_numbers names) refl where
  not_so : differ same_numbers names ≡ true → ⊥
  not_so d =
      let whole : take (i + 1) names ++ drop (i + 1) names ≡ names = take-append-drop (i + 1) names in
      let front : differ same_numbers (take (i + 1) names) ≡ true = differ_front (take (i + 1) names) (drop (i + 1) names) (ap names_differ whole ∙ d) in
      let last : (differ same_numbers (take i names) && not (is_among (take i names) x)) ≡ true = sym (differ_more (take i names) x) ∙ ap names_differ (sym (take_one names i x is)) ∙ front in
      both_ways (not (is_among (take i names) x)) (not_from_true (is_among (take i names) x) again)
      (and_parts (differ same_numbers (take i names)) (not (is_among (take i names) x)) last).1

  at : (b : Bool) → differ same_numbers names ≡ b → b ≡ false
  at false e = refl
  at true e = absurd (not_so e)

-- ---- name by name, with a set of those that were seen

pub seen_again : (names seen : List (List ℕ)) (i : ℕ) (item x : List ℕ) (new : Bool) → slice_get names i ≡ Some item → x ≡ item → seen ≡ take i names
    → new ≡ not (is_among seen x) → new ≡ false → false ≡ differ same_numbers names
seen_again names seen i item x new is same front answer old =
    let again : is_among seen x ≡ true = not-false (is_among seen x) (sym answer ∙ old) in
    sym (repeats names i x (rw same is) (rw (sym front) again))

pub seen_new : (names seen after : List (List ℕ)) (i : ℕ) (item x : List ℕ) (new : Bool) → slice_get names i ≡ Some item → x ≡ item → seen ≡ take i names
    → new ≡ not (is_among seen x) → new ≡ true → after ≡ with_name seen x → differ same_numbers (take i names) ≡ true
    → (after ≡ take (i + 1) names) × (differ same_numbers (take (i + 1) names) ≡ true)
seen_new names seen after i item x new is same front answer fresh with_ d =
    let not_there : is_among seen x ≡ false = not-true (is_among seen x) (sym answer ∙ fresh) in
    let at : slice_get names i ≡ Some x = rw same is in
    (with_ ∙ rw not_there (rw front (sym (take_one names i x at))), differs_more names i x at d (rw (sym front) not_there))
