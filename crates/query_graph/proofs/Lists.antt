-- Tests of the items of lists.
use Rattle.std.proofs.Common.{◌≡◌, ℕ, ◌+◌, Bool, cond, true, false, ◌&&◌, ◌||◌, List, [], ◌∷◌, Some, is_some, refl, sym, ap, ◌∙◌}
use Rattle.std.specs.List.{list_any, list_all, flat_map, position_from}
use Rattle.std.proofs.lemmas.List.Folds.{list_all-append}
use Rattle.std.proofs.lemmas.Cmp.{nat_list_eq_equiv}
use Rattle.star_model.specs.Vectors.{same_numbers}
use Rattle.star_model.specs.Names.{place_of, is_among}

pub same_numbers_comm : (a b : List ℕ) → same_numbers a b ≡ same_numbers b a
same_numbers_comm a b = nat_list_eq_equiv.symm a b

is_some-position_from : {A : Type 0} (test : A → Bool) (n : ℕ) (xs : List A) → is_some (position_from test n xs) ≡ list_any test xs
is_some-position_from test n [] = refl
is_some-position_from test n (x ∷ xs) =
    elim (test x) as (λ b. is_some (cond b (Some n) (position_from test (n + 1) xs)) ≡ (b || list_any test xs)) [ true ↦ refl | false ↦ is_some-position_from test (n + 1) xs ]

-- a name has a place exactly where it is among the names
pub is_some-place_of : (name : List ℕ) (names : List (List ℕ)) → is_some (place_of name names) ≡ is_among names name
is_some-place_of name names = is_some-position_from (same_numbers name) 0 names

-- ---- any

pub list_any-same : {A : Type 0} (p q : A → Bool) → ((x : A) → p x ≡ q x) → (xs : List A) → list_any p xs ≡ list_any q xs
list_any-same p q same xs = λ i. list_any (λ x. same x i) xs

or-rotated : (a b c d : Bool) → ((a || b) || (c || d)) ≡ ((a || c) || (b || d))
or-rotated true b c d = refl
or-rotated false true true d = refl
or-rotated false true false d = refl
or-rotated false false c d = refl

none-any : {A : Type 0} (xs : List A) → list_any (λ x. false) xs ≡ false
none-any [] = refl
none-any (x ∷ xs) = none-any xs

any-or : {A : Type 0} (p q : A → Bool) (xs : List A) → list_any (λ x. p x || q x) xs ≡ (list_any p xs || list_any q xs)
any-or p q [] = refl
any-or p q (x ∷ xs) = ap (λ b. (p x || q x) || b) (any-or p q xs) ∙ or-rotated (p x) (q x) (list_any p xs) (list_any q xs)

-- some x has some y exactly where some y has some x
pub any-exchanged : {A B : Type 0} (related : A → B → Bool) (xs : List A) (ys : List B) → list_any (λ x. list_any (related x) ys) xs ≡ list_any (λ y. list_any (λ x. related x y) xs) ys
any-exchanged related [] ys = sym (none-any ys)
any-exchanged related (x ∷ xs) ys = ap (λ b. list_any (related x) ys || b) (any-exchanged related xs ys) ∙ sym (any-or (related x) (λ y. list_any (λ z. related z y) xs) ys)

and-or : (a b c : Bool) → ((a && b) || (a && c)) ≡ (a && (b || c))
and-or true b c = refl
and-or false b c = refl

and-false : (a : Bool) → false ≡ (a && false)
and-false true = refl
and-false false = refl

pub any-and : {A : Type 0} (a : Bool) (p : A → Bool) (xs : List A) → list_any (λ x. a && p x) xs ≡ (a && list_any p xs)
any-and a p [] = and-false a
any-and a p (x ∷ xs) = ap (λ b. (a && p x) || b) (any-and a p xs) ∙ and-or a (p x) (list_any p xs)

-- ---- all

pub list_all-same : {A : Type 0} (p q : A → Bool) → ((x : A) → p x ≡ q x) → (xs : List A) → list_all p xs ≡ list_all q xs
list_all-same p q same xs = λ i. list_all (λ x. same x i) xs

pub list_all-flat_map : {A B : Type 0} (p : B → Bool) (f : A → List B) (xs : List A) → list_all p (flat_map f xs) ≡ list_all (λ x. list_all p (f x)) xs
list_all-flat_map p f [] = refl
list_all-flat_map p f (x ∷ xs) = list_all-append p (f x) (flat_map f xs) ∙ ap (λ b. list_all p (f x) && b) (list_all-flat_map p f xs)
