-- What columns and lists of names stand for.
use Rattle.std.proofs.Common.{◌≡◌, ℕ, ◌+◌, ◌<◌, ◌≤◌, List, [], ◌∷◌, ◌++◌, length, map, take, drop, get_or, Option, Some, None, slice_get, refl, sym, ap, ◌∙◌, subst, inl, inr, arith, true, true≢false, Result, Ok, Err, OnOk, is_ok, drop-cons}
use Prim.Native.Nat.{zero, suc}
use Rattle.std.specs.Option.{option_map}
use Rattle.std.proofs.lemmas.Option.{slice_get-get_or}
use Rattle.std.proofs.lemmas.List.{length-map, length-take-le, take_more, take-append-drop, map-append}
use Rattle.star_model.specs.declared.catalogue.Catalogue.{Catalogue}
use Rattle.star_model.specs.declared.catalogue.TableDef.{TableDef}
use Rattle.star_model.specs.declared.query.QuantDef.{QuantDef}
use Rattle.query_graph.specs.declared.words.ComparisonWords.{ComparisonWords}
use Rattle.query_graph.specs.Words.{said_side, said_comparison}
use Rattle.query_graph.specs.Faults.{IsGreatSide, HasGreatConstant}
use Rattle.star_model.specs.Names.{place_of}
use Rattle.spelling.specs.Names.{all_of}
use Rattle.query_graph.specs.Queries.{ColumnName, column_of}

-- what a read of a list says
pub found_at : {A : Type 0} (xs : List A) (n : ℕ) (x : A) → n < length xs → x ≡ get_or xs n x → slice_get xs n ≡ Some x
found_at xs n x within is = slice_get-get_or xs n x within ∙ ap (λ y. Some y) (sym is)

pub column_of_is : (c : Catalogue) (quantifiers : List QuantDef) (n : ColumnName) (quant : ℕ) (d : QuantDef) (t : TableDef) (column : ℕ)
    → place_of n.quantifier (map (λ q. q.name) quantifiers) ≡ Some quant → slice_get quantifiers quant ≡ Some d → slice_get c.tables d.table ≡ Some t
    → place_of n.column (map (λ q. q.name) t.columns) ≡ Some column
    → column_of c quantifiers n ≡ Some (record { quant = record { 0 = quant }; column = column })
column_of_is c quantifiers n quant d t column first second third fourth = rw (first, second, third, fourth) refl

-- ---- lists

tail_of : {A : Type 0} (y : A) (xs : Option (List A)) (found : List A) → option_map (λ ys. y ∷ ys) xs ≡ Some found → (ys : List A) × (xs ≡ Some ys) × (found ≡ y ∷ ys)
tail_of y None found is = absurd cc
tail_of y (Some ys) found is = let same : found ≡ y ∷ ys = cc in (ys, refl, same)

all_of-more : {A : Type 0} (xs : List (Option A)) (found : List A) (x : A) → all_of xs ≡ Some found → all_of (xs ++ Some x ∷ []) ≡ Some (found ++ x ∷ [])
all_of-more [] found x is = let same : [] ≡ found = cc in ap (λ ys. Some (ys ++ x ∷ [])) same
all_of-more (None ∷ xs) found x is = absurd cc
all_of-more (Some y ∷ xs) found x is =
    let tail = tail_of y (all_of xs) found is in
    ap (option_map (λ ys. y ∷ ys)) (all_of-more xs tail.0 x tail.1) ∙ ap (λ ys. Some (ys ++ x ∷ [])) (sym tail.2)

all_of-none : {A : Type 0} (xs ys : List (Option A)) → all_of (xs ++ None ∷ ys) ≡ None
all_of-none [] ys = refl
all_of-none (None ∷ xs) ys = refl
all_of-none (Some x ∷ xs) ys = ap (option_map (λ zs. x ∷ zs)) (all_of-none xs ys)

pub length-all_of : {A : Type 0} (xs : List (Option A)) (found : List A) → all_of xs ≡ Some found → length found ≡ length xs
length-all_of [] found is = let same : [] ≡ found = cc in ap length (sym same)
length-all_of (None ∷ xs) found is = absurd cc
length-all_of (Some y ∷ xs) found is = let tail = tail_of y (all_of xs) found is in ap length tail.2 ∙ ap suc (length-all_of xs tail.0 tail.1)

pub collected_length : {W X A : Type 0} (meaning : X → Option A) (said : W → X) (words : List W) (n : ℕ) (found : List A) → n ≤ length words
    → all_of (map meaning (map said (take n words))) ≡ Some found → length found ≡ n
collected_length meaning said words n found within so_far =
    length-all_of (map meaning (map said (take n words))) found so_far
    ∙ length-map (map said (take n words)) meaning ∙ length-map (take n words) said ∙ length-take-le n words within

-- what the words of a list stand for, one after the other
module _ {W X A : Type 0} (meaning : X → Option A) (said : W → X) (words : List W) (n : ℕ) (word : W) (within : n < length words) (is : word ≡ get_or words n word) where
  pub collected_more : (found : List A) (x : A) → all_of (map meaning (map said (take n words))) ≡ Some found → meaning (said word) ≡ Some x
      → all_of (map meaning (map said (take (n + 1) words))) ≡ Some (found ++ x ∷ [])
  collected_more found x so_far here =
      ap (λ ws. all_of (map meaning (map said ws))) (take_more words n word within ∙ ap (λ w. take n words ++ w ∷ []) (sym is))
      ∙ ap (λ xs. all_of (map meaning xs)) (map-append said (take n words) (word ∷ []))
      ∙ ap all_of (map-append meaning (map said (take n words)) (said word ∷ []))
      ∙ ap (λ o. all_of (map meaning (map said (take n words)) ++ o ∷ [])) here
      ∙ all_of-more (map meaning (map said (take n words))) found x so_far

  pub collected_none : meaning (said word) ≡ None → all_of (map meaning (map said words)) ≡ None
  collected_none here =
      ap (λ ws. all_of (map meaning (map said ws))) (sym (take-append-drop n words) ∙ ap (λ ws. take n words ++ ws) (drop-cons words n word within ∙ ap (λ w. w ∷ drop (suc n) words) (sym is)))
      ∙ ap (λ xs. all_of (map meaning xs)) (map-append said (take n words) (word ∷ drop (suc n) words))
      ∙ ap all_of (map-append meaning (map said (take n words)) (said word ∷ map said (drop (suc n) words)))
      ∙ ap (λ o. all_of (map meaning (map said (take n words)) ++ o ∷ map meaning (map said (drop (suc n) words)))) here
      ∙ all_of-none (map meaning (map said (take n words))) (map meaning (map said (drop (suc n) words)))

-- a great constant at a place is among those of the list
pub great_at : (ps : List ComparisonWords) (n : ℕ) (p : ComparisonWords) → n < length ps → p ≡ get_or ps n p → IsGreatSide (said_side p.right) → HasGreatConstant (map said_comparison ps)
great_at [] n p within is great = absurd (omega arith)
great_at (x ∷ xs) zero p within is great = inl (subst (λ (y : ComparisonWords). IsGreatSide (said_side y.right)) is great)
great_at (x ∷ xs) (suc n) p within is great = inr (great_at xs n p (omega arith) is great)

pub ok_says : {T E : Type 0} (r : Result T E) (P : Type 0) → true ≡ is_ok r → OnOk r P → P
ok_says (Ok x) P ok says = says
ok_says (Err e) P ok says = absurd (true≢false ok)
