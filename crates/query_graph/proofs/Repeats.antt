-- Lists of names in which one stands twice.
use Rattle.std.proofs.Common.{◌≡◌, ℕ, ◌+◌, ◌<◌, Bool, true, false, not, ◌&&◌, ◌||◌, List, [], ◌∷◌, ◌++◌, length, map, take, drop, get_or, Bor, refl, sym, ap, ◌∙◌, ◌⊎◌, inl, inr}
use Rattle.std.proofs.lemmas.Bool.{and_cases, and_left, and_right}
use Rattle.std.proofs.lemmas.List.{take_more, map-append, take-append-drop}
use Rattle.std.proofs.lemmas.List.Folds.{list_all-append, list_any-append}
use Rattle.std.specs.List.{list_any, list_all}
use Rattle.indexmap.specs.IndexSet.{insert_key}
use Rattle.star_model.specs.Vectors.{same_numbers}
use Rattle.star_model.specs.WellFormed.{differ}
use Rattle.query_graph.specs.Queries.{quantifier_name}
use Rattle.query_graph.specs.declared.words.ItemWords.{ItemWords}
use Rattle.query_graph.specs.Words.{said_item}
use Rattle.query_graph.specs.Faults.{quantifier_names}
use Rattle.query_graph.proofs.Inserting.{list_any-insert_key, or-false}
use Rattle.query_graph.proofs.Lists.{same_numbers_comm}
use Rattle.star_model.proofs.Laws.{same_are}

one_step : (all same_ others any : Bool) → ((all && (not same_ && true)) && (others && not any)) ≡ ((all && others) && not (same_ || any))
one_step true true true any = refl
one_step true true false any = refl
one_step true false others any = refl
one_step false same_ others any = refl

-- one name more
pub differ-push : (names : List (List ℕ)) (name : List ℕ) → differ same_numbers (names ++ name ∷ []) ≡ (differ same_numbers names && not (list_any (same_numbers name) names))
differ-push [] name = refl
differ-push (x ∷ xs) name =
    (λ i. list_all-append (λ y. not (same_numbers x y)) xs (name ∷ []) i && differ-push xs name i)
    ∙ one_step (list_all (λ y. not (same_numbers x y)) xs) (same_numbers x name) (differ same_numbers xs) (list_any (same_numbers name) xs)
    ∙ ap (λ b. (list_all (λ y. not (same_numbers x y)) xs && differ same_numbers xs) && not (b || list_any (same_numbers name) xs)) (same_numbers_comm x name)

pub differ-front : (names later : List (List ℕ)) → differ same_numbers names ≡ false → differ same_numbers (names ++ later) ≡ false
differ-front [] later twice = absurd cc
differ-front (x ∷ xs) later twice = by (and_cases (list_all (λ y. not (same_numbers x y)) xs) (differ same_numbers xs) twice) (differ-front xs later)
  where
    by : (list_all (λ y. not (same_numbers x y)) xs ≡ false) ⊎ (differ same_numbers xs ≡ false) → (differ same_numbers xs ≡ false → differ same_numbers (xs ++ later) ≡ false)
        → (list_all (λ y. not (same_numbers x y)) (xs ++ later) && differ same_numbers (xs ++ later)) ≡ false
    by (inl here) rest =
        and_left (list_all (λ y. not (same_numbers x y)) (xs ++ later)) (differ same_numbers (xs ++ later))
        (list_all-append (λ y. not (same_numbers x y)) xs later ∙ and_left (list_all (λ y. not (same_numbers x y)) xs) (list_all (λ y. not (same_numbers x y)) later) here)
    by (inr there) rest = and_right (list_all (λ y. not (same_numbers x y)) (xs ++ later)) (differ same_numbers (xs ++ later)) (rest there)

-- a set of borrowed names that has those so far, and one more
pub one_name_more : (keys : List (Bor (List ℕ))) (k : Bor (List ℕ)) (names : List (List ℕ)) (name : List ℕ) → k.now ≡ name
    → ((n : List ℕ) → list_any (λ x. same_numbers n x.now) keys ≡ list_any (same_numbers n) names)
    → (n : List ℕ) → list_any (λ x. same_numbers n x.now) (insert_key (λ x y. same_numbers x.now y.now) keys k) ≡ list_any (same_numbers n) (names ++ name ∷ [])
one_name_more keys k names name is so_far n =
    list_any-insert_key (λ x y. same_numbers x.now y.now) (λ x. same_numbers n x.now) keys k (λ passes. λ i. list_any (λ x. same_numbers (sym (same_are n k.now passes) i) x.now) keys)
    ∙ (λ i. so_far n i || same_numbers n (is i))
    ∙ sym (or-false (list_any (same_numbers n) names) (same_numbers n name))
    ∙ sym (list_any-append (same_numbers n) names (name ∷ []))

-- ---- the names of the quantifiers

abbrev pub names_of : List ItemWords → List (List ℕ)
names_of items = quantifier_names (map said_item items)

names_of-append : (early later : List ItemWords) → names_of (early ++ later) ≡ names_of early ++ names_of later
names_of-append early later = ap quantifier_names (map-append said_item early later) ∙ map-append quantifier_name (map said_item early) (map said_item later)

pub names_of-more : (items : List ItemWords) (n : ℕ) (item : ItemWords) → n < length items → item ≡ get_or items n item
    → names_of (take (n + 1) items) ≡ names_of (take n items) ++ quantifier_name (said_item item) ∷ []
names_of-more items n item within is =
    ap names_of (take_more items n item within ∙ ap (λ x. take n items ++ x ∷ []) (sym is)) ∙ names_of-append (take n items) (item ∷ [])

-- a name that stands twice at the front stands twice
pub twice : (items : List ItemWords) (n : ℕ) → differ same_numbers (names_of (take n items)) ≡ false → true ≡ not (differ same_numbers (names_of items))
twice items n front =
    let whole : names_of items ≡ names_of (take n items) ++ names_of (drop n items) = ap names_of (sym (take-append-drop n items)) ∙ names_of-append (take n items) (drop n items) in
    sym (ap not (ap (differ same_numbers) whole ∙ differ-front (names_of (take n items)) (names_of (drop n items)) front))

-- where the set says that the name is there, it is a second one
pub second : (keys : List (Bor (List ℕ))) (k : Bor (List ℕ)) (names : List (List ℕ)) (name : List ℕ) (is_new : Bool) → k.now ≡ name
    → ((n : List ℕ) → list_any (λ x. same_numbers n x.now) keys ≡ list_any (same_numbers n) names)
    → differ same_numbers names ≡ true
    → is_new ≡ not (list_any (λ x. same_numbers k.now x.now) keys)
    → differ same_numbers (names ++ name ∷ []) ≡ is_new
second keys k names name is_new is so_far different added =
    differ-push names name ∙ (λ i. different i && not (list_any (same_numbers (sym is i)) names)) ∙ ap not (sym (so_far k.now)) ∙ sym added
