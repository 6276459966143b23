-- Lists in which something is found, and options that are there.
use Rattle.std.proofs.Common.{◌≡◌, ℕ, ◌+◌, ◌<◌, Bool, cond, true, false, not, List, [], ◌∷◌, length, map, slice_get, Option, Some, None, is_some, true≢false, refl, sym, ap, ◌∙◌, subst, ◌⊎◌, inl, inr, arith}
use Prim.Native.Nat.{zero, suc}
use Rattle.std.specs.List.{list_any, list_all, position_from}
use Rattle.std.specs.Option.{option_and_then, option_map}
use Rattle.std.proofs.lemmas.Bool.{and_parts, and_from, or_cases, not-true}
use Rattle.std.proofs.lemmas.Option.{slice_get-map}
use Rattle.star_model.specs.Vectors.{same_numbers}
use Rattle.star_model.specs.WellFormed.{differ}
use Rattle.star_model.specs.Every.{Every}
use Rattle.star_model.specs.Names.{place_of, is_among}
use Rattle.spelling.specs.Names.{all_of}
use Rattle.query_graph.proofs.Lists.{same_numbers_comm, is_some-place_of}
use Rattle.star_model.proofs.Laws.{same_are}

-- ---- options

pub there : {A : Type 0} (o : Option A) → is_some o ≡ true → (x : A) × (o ≡ Some x)
there None some = absurd (true≢false (sym some))
there (Some x) some = (x, refl)

pub then_some : {A B : Type 0} (o : Option A) (f : A → Option B) (y : B) → option_and_then f o ≡ Some y → (x : A) × (o ≡ Some x) × (f x ≡ Some y)
then_some None f y is = absurd cc
then_some (Some x) f y is = (x, refl, is)

pub some_same : {A : Type 0} (x y : A) → Some x ≡ Some y → x ≡ y
some_same x y e = cc

-- ---- items

pub any_found : {A : Type 0} (test : A → Bool) (xs : List A) → list_any test xs ≡ true → (n : ℕ) × (x : A) × (slice_get xs n ≡ Some x) × (test x ≡ true)
any_found test [] found = absurd (true≢false (sym found))
any_found {A} test (y ∷ ys) found = by (or_cases (test y) (list_any test ys) found) (any_found test ys)
  where
    by : (test y ≡ true) ⊎ (list_any test ys ≡ true) → (list_any test ys ≡ true → (n : ℕ) × (x : A) × (slice_get ys n ≡ Some x) × (test x ≡ true))
        → (n : ℕ) × (x : A) × (slice_get (y ∷ ys) n ≡ Some x) × (test x ≡ true)
    by (inl here) rest = (0, y, refl, here)
    by (inr there) rest = let later = rest there in (suc later.0, later.1, later.2, later.3)

pub all_at : {A : Type 0} (test : A → Bool) (xs : List A) (n : ℕ) (x : A) → list_all test xs ≡ true → slice_get xs n ≡ Some x → test x ≡ true
all_at test [] n x all is = absurd cc
all_at test (y ∷ ys) zero x all is = ap test (sym (some_same y x is)) ∙ (and_parts (test y) (list_all test ys) all).0
all_at test (y ∷ ys) (suc n) x all is = all_at test ys n x (and_parts (test y) (list_all test ys) all).1 is

pub get_map : {A B : Type 0} (f : A → B) (xs : List A) (n : ℕ) (x : A) → slice_get xs n ≡ Some x → slice_get (map f xs) n ≡ Some (f x)
get_map f xs n x is = slice_get-map f xs n ∙ ap (option_map f) is

-- the first of names that differ is found where it stands
place_from : (names : List (List ℕ)) (name wanted : List ℕ) (from n : ℕ) → differ same_numbers names ≡ true → slice_get names n ≡ Some name → same_numbers wanted name ≡ true
    → position_from (same_numbers wanted) from names ≡ Some (from + n)
place_from [] name wanted from n different is same = absurd cc
place_from (x ∷ xs) name wanted from zero different is same =
    let here : same_numbers wanted x ≡ true = ap (same_numbers wanted) (some_same x name is) ∙ same in
    ap (λ b. cond b (Some from) (position_from (same_numbers wanted) (from + 1) xs)) here ∙ ap (λ m. Some m) (omega arith)
place_from (x ∷ xs) name wanted from (suc n) different is same =
    let parts = and_parts (list_all (λ y. not (same_numbers x y)) xs) (differ same_numbers xs) different in
    let wants : wanted ≡ name = same_are wanted name same in
    let other : same_numbers x name ≡ false = not-true (same_numbers x name) (all_at (λ y. not (same_numbers x y)) xs n name parts.0 is) in
    let not_here : same_numbers wanted x ≡ false = same_numbers_comm wanted x ∙ ap (same_numbers x) wants ∙ other in
    ap (λ b. cond b (Some from) (position_from (same_numbers wanted) (from + 1) xs)) not_here
    ∙ place_from xs name wanted (from + 1) n parts.1 is same
    ∙ ap (λ m. Some m) (omega arith)

pub place_at : (names : List (List ℕ)) (name wanted : List ℕ) (n : ℕ) → differ same_numbers names ≡ true → slice_get names n ≡ Some name → same_numbers wanted name ≡ true
    → place_of wanted names ≡ Some n
place_at names name wanted n different is same = place_from names name wanted 0 n different is same ∙ ap (λ m. Some m) (omega arith)

-- a place is that of an item
place_within_from : (names : List (List ℕ)) (wanted : List ℕ) (from place : ℕ) → position_from (same_numbers wanted) from names ≡ Some place
    → (n : ℕ) × (place ≡ from + n) × (n < length names) × ((name : List ℕ) × (slice_get names n ≡ Some name) × (wanted ≡ name))
place_within_from [] wanted from place is = absurd cc
place_within_from (x ∷ xs) wanted from place is = by (same_numbers wanted x) refl is (place_within_from xs wanted (from + 1) place)
  where
    by : (b : Bool) → same_numbers wanted x ≡ b → cond b (Some from) (position_from (same_numbers wanted) (from + 1) xs) ≡ Some place
        → (position_from (same_numbers wanted) (from + 1) xs ≡ Some place
        → (n : ℕ) × (place ≡ from + 1 + n) × (n < length xs) × ((name : List ℕ) × (slice_get xs n ≡ Some name) × (wanted ≡ name)))
        → (n : ℕ) × (place ≡ from + n) × (n < length (x ∷ xs)) × ((name : List ℕ) × (slice_get (x ∷ xs) n ≡ Some name) × (wanted ≡ name))
    by true e found rest = let same = some_same from place found in (0, omega arith, omega arith, (x, refl, same_are wanted x e))
    by false e found rest = let later = rest found in (suc later.0, omega (arith, later.1), omega (arith, later.2), later.3)

pub place_within : (names : List (List ℕ)) (wanted : List ℕ) (place : ℕ) → place_of wanted names ≡ Some place
    → (place < length names) × ((name : List ℕ) × (slice_get names place ≡ Some name) × (wanted ≡ name))
place_within names wanted place is =
    let found = place_within_from names wanted 0 place is in
    let same : found.0 ≡ place = omega (arith, found.1) in
    (subst (λ n. n < length names) same found.2, subst (λ n. (name : List ℕ) × (slice_get names n ≡ Some name) × (wanted ≡ name)) same found.3)

pub among_place : (name : List ℕ) (names : List (List ℕ)) → is_among names name ≡ true → (n : ℕ) × (place_of name names ≡ Some n)
among_place name names among = there (place_of name names) (is_some-place_of name names ∙ among)

-- ---- lists of options

all_cons : {A B : Type 0} (f : A → Option B) (x : A) (xs : List A) (y : B) (ys : List B) → f x ≡ Some y → all_of (map f xs) ≡ Some ys → all_of (map f (x ∷ xs)) ≡ Some (y ∷ ys)
all_cons f x xs y ys first later = rw (first, later) refl

pub all_there : {A B : Type 0} (f : A → Option B) (xs : List A) → list_all (λ x. is_some (f x)) xs ≡ true → (ys : List B) × (all_of (map f xs) ≡ Some ys)
all_there f [] all = ([], refl)
all_there f (x ∷ xs) all =
    let parts = and_parts (is_some (f x)) (list_all (λ y. is_some (f y)) xs) all in
    let first = there (f x) parts.0 in
    let later = all_there f xs parts.1 in
    (first.0 ∷ later.0, all_cons f x xs first.0 later.0 first.1 later.1)

-- the first item, and the others
pub all_parts : {A B : Type 0} (f : A → Option B) (x : A) (xs : List A) (ys : List B) → all_of (map f (x ∷ xs)) ≡ Some ys
    → (z : B) × (zs : List B) × (f x ≡ Some z) × (all_of (map f xs) ≡ Some zs) × (ys ≡ z ∷ zs)
all_parts {A} {B} f x xs ys is = by (f x) refl is
  where
    rest : (z : B) (o : Option (List B)) → all_of (map f xs) ≡ o → f x ≡ Some z → option_map (λ zs. z ∷ zs) o ≡ Some ys
        → (w : B) × (zs : List B) × (f x ≡ Some w) × (all_of (map f xs) ≡ Some zs) × (ys ≡ w ∷ zs)
    rest z None e first all = absurd cc
    rest z (Some zs) e first all = let same : ys ≡ z ∷ zs = cc in (z, zs, first, e, same)

    by : (o : Option B) → f x ≡ o → all_of (o ∷ map f xs) ≡ Some ys → (z : B) × (zs : List B) × (f x ≡ Some z) × (all_of (map f xs) ≡ Some zs) × (ys ≡ z ∷ zs)
    by None e all = absurd cc
    by (Some z) e all = rest z (all_of (map f xs)) refl e all

pub all_length : {A B : Type 0} (f : A → Option B) (xs : List A) (ys : List B) → all_of (map f xs) ≡ Some ys → length ys ≡ length xs
all_length f [] ys is = let same : [] ≡ ys = cc in ap length (sym same)
all_length f (x ∷ xs) ys is = let parts = all_parts f x xs ys is in ap length parts.4 ∙ ap suc (all_length f xs parts.1 parts.3)

pub mapped_some : {A B : Type 0} (g : A → B) (o : Option A) (y : B) → option_map g o ≡ Some y → (x : A) × (o ≡ Some x) × (g x ≡ y)
mapped_some g None y is = absurd cc
mapped_some g (Some x) y is = (x, refl, some_same (g x) y is)

-- each result changed in one way
pub all_mapped : {A B C : Type 0} (f : A → Option B) (g : B → C) (xs : List A) (ys : List B) → all_of (map f xs) ≡ Some ys
    → all_of (map (λ x. option_map g (f x)) xs) ≡ Some (map g ys)
all_mapped f g [] ys is = ap (λ l. Some (map g l)) (some_same [] ys is)
all_mapped f g (x ∷ xs) ys is =
    let parts = all_parts f x xs ys is in
    all_cons (λ z. option_map g (f z)) x xs (g parts.0) (map g parts.1) (ap (option_map g) parts.2) (all_mapped f g xs parts.1 parts.3)
    ∙ ap (λ l. Some (map g l)) (sym parts.4)

-- what is at a place
pub all_get : {A B : Type 0} (f : A → Option B) (xs : List A) (ys : List B) (n : ℕ) (x : A) → all_of (map f xs) ≡ Some ys → slice_get xs n ≡ Some x
    → (y : B) × (f x ≡ Some y) × (slice_get ys n ≡ Some y)
all_get f [] ys n x is at = absurd cc
all_get f (z ∷ zs) ys zero x is at =
    let parts = all_parts f z zs ys is in
    (parts.0, ap f (sym (some_same z x at)) ∙ parts.2, ap (λ (l : List _). slice_get l 0) parts.4)
all_get f (z ∷ zs) ys (suc n) x is at =
    let parts = all_parts f z zs ys is in
    let later = all_get f zs parts.1 n x parts.3 at in
    (later.0, later.1, ap (λ (l : List _). slice_get l (suc n)) parts.4 ∙ later.2)

-- each result has a property that follows from its item's
pub all_have : {A B : Type 0} (f : A → Option B) (If : A → Type 0) (test : B → Bool) → ((x : A) (y : B) → If x → f x ≡ Some y → test y ≡ true)
    → (xs : List A) (ys : List B) → Every If xs → all_of (map f xs) ≡ Some ys → list_all test ys ≡ true
all_have f If test each [] ys all is = let same : [] ≡ ys = cc in ap (list_all test) (sym same)
all_have f If test each (x ∷ xs) ys all is =
    let parts = all_parts f x xs ys is in
    ap (list_all test) parts.4
    ∙ and_from (test parts.0) (list_all test parts.1) (each x parts.0 all.0 parts.2) (all_have f If test each xs parts.1 all.1 parts.3)

pub all_with : {A : Type 0} (first : A → Bool) (With : A → Type 0) (test : A → Bool) → ((x : A) → first x ≡ true → With x → test x ≡ true)
    → (xs : List A) → list_all first xs ≡ true → Every With xs → list_all test xs ≡ true
all_with first With test each [] all every = refl
all_with first With test each (x ∷ xs) all every =
    let parts = and_parts (first x) (list_all first xs) all in
    and_from (test x) (list_all test xs) (each x parts.0 every.0) (all_with first With test each xs parts.1 every.1)
