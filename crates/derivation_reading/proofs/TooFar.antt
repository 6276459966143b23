-- The ancestors of nodes in preorder, and the first node that has too many.
use Rattle.std.proofs.Common.{◌≡◌, ℕ, suc, ◌+◌, ◌<◌, ◌≤◌, Bool, true, false, nat_lt, if◌then◌else◌, List, [], ◌∷◌, ◌++◌, length, map, drop, get_or, replicate, reverse, Option, Some, None, refl, sym, ap, ◌∙◌, subst, arith, add-one, append_assoc, append-nil}
use Rattle.std.proofs.lemmas.Bool.{ltb-true, ltb-false, lt-ltb, le-ltb}
use Rattle.std.proofs.lemmas.List.{reverse-append, drop_more}
use Rattle.star_model.specs.declared.rules.Flavour.{Flavour}
use Rattle.star_model.specs.declared.derivations.Deriv.{Deriv}
use Rattle.star_model.specs.declared.derivations.Deriv.TheVariants as made
use Rattle.star_model.specs.DerivCases as d
use Rattle.star_model.specs.Kinds.{inputs_of}
use Rattle.spelling.specs.Firsts.{FirstFrom, NoneFrom, FirstAt, NoneHas}
use Rattle.derivation_reading.specs.Derivations.{Step, Operator, steps, HasInputs}
use Rattle.derivation_reading.specs.Places.{inputs}
use Rattle.derivation_reading.specs.Ancestors.{ancestors, IsTooFar}
use Rattle.derivation_reading.specs.OpenPlaces.{ancestors_of}

-- ---- by places and by the tree

operator_places : (f : Flavour) (k n : ℕ) (places : List ℕ) (later : List Step) → inputs_of f ≡ k → ancestors_of (n ∷ places) (Operator f ∷ later) ≡ n ∷ ancestors_of (replicate k (n + 1) ++ places) later
unfolding ancestors_of
operator_places f k n places later is = ap (λ (i : ℕ). n ∷ ancestors_of (replicate i (n + 1) ++ places) later) is

tree_places : (t : Deriv) (n : ℕ) (places : List ℕ) (later : List Step) → HasInputs t → ancestors_of (n ∷ places) (steps t ++ later) ≡ ancestors n t ++ ancestors_of places later
unfolding ancestors_of ancestors steps HasInputs
tree_places (d.Glue chain a) n places later has = ap (λ (l : List ℕ). n ∷ l) (tree_places a (n + 1) places later has)
tree_places (d.Goal g split a) n places later has = ap (λ (l : List ℕ). n ∷ l) (tree_places a (n + 1) places later has)
tree_places (d.Reference star k values a) n places later has = ap (λ (l : List ℕ). n ∷ l) (tree_places a (n + 1) places later has)
tree_places (made.Leaf f) n places later has = operator_places f 0 n places later has
tree_places (d.Unary f a) n places later has = operator_places f 1 n places (steps a ++ later) has.0 ∙ ap (λ (l : List ℕ). n ∷ l) (tree_places a (n + 1) places later has.1)
tree_places (d.Binary f a b) n places later has =
    ap (λ (l : List Step). ancestors_of (n ∷ places) (Operator f ∷ l)) (append_assoc (steps a) (steps b) later)
    ∙ operator_places f 2 n places (steps a ++ (steps b ++ later)) has.0
    ∙ ap (λ (l : List ℕ). n ∷ l)
    (tree_places a (n + 1) ((n + 1) ∷ places) (steps b ++ later) has.1 ∙ ap (λ (l : List ℕ). ancestors (n + 1) a ++ l) (tree_places b (n + 1) places later has.2)
    ∙ sym (append_assoc (ancestors (n + 1) a) (ancestors (n + 1) b) (ancestors_of places later)))

no_more : (places : List ℕ) → ancestors_of places [] ≡ []
unfolding ancestors_of
no_more places = refl

pub tree_ancestors : (t : Deriv) → HasInputs t → ancestors_of (0 ∷ []) (steps t) ≡ ancestors 0 t
tree_ancestors t has =
    ap (ancestors_of (0 ∷ [])) (sym (append-nil (steps t))) ∙ tree_places t 0 [] [] has ∙ ap (λ (l : List ℕ). ancestors 0 t ++ l) (no_more []) ∙ append-nil (ancestors 0 t)

-- ---- the first that is too far down

-- its number, where they are counted from n
unfoldable pub first_far : ℕ → List ℕ → Option ℕ
first_far n [] = None
first_far n (x ∷ xs) = if nat_lt 2047 x then Some n else first_far (n + 1) xs

record IsFar (n : ℕ) (before xs : List ℕ) (k : ℕ) : Type 0 where
  place : ℕ
  is : k ≡ n + place
  first : FirstFrom IsTooFar before xs (suc place)

far_at : (n : ℕ) (before xs : List ℕ) (k : ℕ) → first_far n xs ≡ Some k → IsFar n before xs k
unfolding first_far
far_at n before [] k found = absurd cc
far_at n before (x ∷ xs) k found = at (nat_lt 2047 x) refl found (far_at (n + 1) (before ++ x ∷ []) xs k)
  where
    at : (b : Bool) → nat_lt 2047 x ≡ b → (if b then Some n else first_far (n + 1) xs) ≡ Some k → (first_far (n + 1) xs ≡ Some k → IsFar (n + 1) (before ++ x ∷ []) xs k) → IsFar n before (x ∷ xs) k
    at true is there later = let same : n ≡ k = cc in record { place = 0; is = omega (arith, same); first = ltb-true 2047 x is }
    at false is there later =
        let rest = later there in
        record { place = suc rest.place; is = omega (arith, rest.is); first = ((λ far. omega (arith, far, ltb-false 2047 x is)), rest.first) }

pub far_first : (xs : List ℕ) (k : ℕ) → first_far 1 xs ≡ Some k → FirstAt IsTooFar xs k
far_first xs k found =
    let far = far_at 1 [] xs k found in
    let same : k ≡ suc far.place = omega (arith, far.is) in
    subst (λ (n : ℕ). FirstAt IsTooFar xs n) (sym same) far.first

none_far : (n : ℕ) (before xs : List ℕ) → first_far n xs ≡ None → NoneFrom IsTooFar before xs
unfolding first_far
none_far n before [] none = tt
none_far n before (x ∷ xs) none = at (nat_lt 2047 x) refl none (none_far (n + 1) (before ++ x ∷ []) xs)
  where
    at : (b : Bool) → nat_lt 2047 x ≡ b → (if b then Some n else first_far (n + 1) xs) ≡ None → (first_far (n + 1) xs ≡ None → NoneFrom IsTooFar (before ++ x ∷ []) xs) → NoneFrom IsTooFar before (x ∷ xs)
    at true is there later = absurd cc
    at false is there later = ((λ far. omega (arith, far, ltb-false 2047 x is)), later there)

pub far_none : (xs : List ℕ) → first_far 1 xs ≡ None → NoneHas IsTooFar xs
far_none xs none = none_far 1 [] xs none

-- ---- the loop

-- the next place is the last of the list
abbrev pub Searched : ℕ → List ℕ → List Step → Option ℕ → Type 0
Searched number places later found = first_far number (ancestors_of (reverse places) later) ≡ found

pub reverse-push : (places : List ℕ) (n : ℕ) → reverse (places ++ n ∷ []) ≡ n ∷ reverse places
reverse-push places n = reverse-append places (n ∷ [])

pub searched-end : (number : ℕ) (places : List ℕ) (found : Option ℕ) → Searched number places [] found → None ≡ found
unfolding first_far ancestors_of
searched-end number places found is = is

pub searched-full : (number : ℕ) (node : Step) (later : List Step) (found : Option ℕ) → Searched number [] (node ∷ later) found → None ≡ found
unfolding first_far ancestors_of
searched-full number node later found is = is

pub searched-far : (number n : ℕ) (places before : List ℕ) (node : Step) (later : List Step) (found : Option ℕ) → before ≡ places ++ n ∷ [] → 2047 < n → Searched number before (node ∷ later) found → Some number ≡ found
unfolding first_far ancestors_of
searched-far number n places before node later found was far is =
    let test : nat_lt 2047 n ≡ true = lt-ltb 2047 n far in
    let next : reverse before ≡ n ∷ reverse places = ap reverse was ∙ reverse-push places n in
    let at : (if nat_lt 2047 n then Some number else first_far (number + 1) (ancestors_of (replicate (inputs node) (n + 1) ++ reverse places) later)) ≡ found =
    subst (λ (l : List ℕ). first_far number (ancestors_of l (node ∷ later)) ≡ found) next is in
    subst (λ (b : Bool). (if b then Some number else first_far (number + 1) (ancestors_of (replicate (inputs node) (n + 1) ++ reverse places) later)) ≡ found) test at

pub searched-near : (number n : ℕ) (places before after : List ℕ) (node : Step) (later : List Step) (found : Option ℕ) → before ≡ places ++ n ∷ [] → n ≤ 2047
    → reverse after ≡ replicate (inputs node) (n + 1) ++ reverse places → Searched number before (node ∷ later) found → Searched (number + 1) after later found
unfolding first_far ancestors_of
searched-near number n places before after node later found was near opened is =
    let test : nat_lt 2047 n ≡ false = le-ltb 2047 n near in
    let next : reverse before ≡ n ∷ reverse places = ap reverse was ∙ reverse-push places n in
    let at : (if nat_lt 2047 n then Some number else first_far (number + 1) (ancestors_of (replicate (inputs node) (n + 1) ++ reverse places) later)) ≡ found =
    subst (λ (l : List ℕ). first_far number (ancestors_of l (node ∷ later)) ≡ found) next is in
    let on = subst (λ (b : Bool). (if b then Some number else first_far (number + 1) (ancestors_of (replicate (inputs node) (n + 1) ++ reverse places) later)) ≡ found) test at in
    subst (λ (l : List ℕ). first_far (number + 1) (ancestors_of l later) ≡ found) (sym opened) on

pub opened-more : (k n : ℕ) (places now after : List ℕ) → reverse now ≡ replicate k n ++ reverse places → after ≡ now ++ n ∷ [] → reverse after ≡ replicate (k + 1) n ++ reverse places
opened-more k n places now after opened is = ap reverse is ∙ reverse-push now n ∙ ap (λ (l : List ℕ). n ∷ l) opened ∙ ap (λ (i : ℕ). replicate i n ++ reverse places) (sym (add-one k))

pub next_item : {A B : Type 0} (f : A → B) (xs : List A) (i : ℕ) (x : A) → i < length xs → x ≡ get_or xs i x → map f (drop i xs) ≡ f x ∷ map f (drop (i + 1) xs)
next_item {A} f xs i x below is = ap (map f) (drop_more xs i x below) ∙ ap (λ (y : A). f y ∷ map f (drop (i + 1) xs)) (sym is)
