-- What the items of a list give one after the other, if each of them gives something.
use Rattle.std.proofs.Common.{◌≡◌, ℕ, ◌+◌, ◌<◌, List, [], ◌∷◌, ◌++◌, length, map, take, drop, get_or, Option, Some, None, refl, sym, ap, ◌∙◌, drop-cons}
use Prim.Native.Nat.{suc}
use Rattle.std.specs.Option.{option_map}
use Rattle.std.proofs.lemmas.List.{take_more, take-append-drop, map-append}
use Rattle.star_model.specs.Data.{all_of}

pub tail_of : {A : Type 0} (y : A) (xs : Option (List A)) (found : List A) → option_map (λ ys. y ∷ ys) xs ≡ Some found → (ys : List A) × (xs ≡ Some ys) × (found ≡ y ∷ ys)
tail_of y None found is = absurd cc
tail_of y (Some ys) found is = let same : found ≡ y ∷ ys = cc in (ys, refl, same)

all_of-more : {A : Type 0} (xs : List (Option A)) (found : List A) (x : A) → all_of xs ≡ Some found → all_of (xs ++ Some x ∷ []) ≡ Some (found ++ x ∷ [])
all_of-more [] found x is = let same : [] ≡ found = cc in ap (λ ys. Some (ys ++ x ∷ [])) same
all_of-more (None ∷ xs) found x is = absurd cc
all_of-more (Some y ∷ xs) found x is =
    let tail = tail_of y (all_of xs) found is in
    ap (option_map (λ ys. y ∷ ys)) (all_of-more xs tail.0 x tail.1) ∙ ap (λ ys. Some (ys ++ x ∷ [])) (sym tail.2)

all_of-none : {A : Type 0} (xs ys : List (Option A)) → all_of (xs ++ None ∷ ys) ≡ None
all_of-none [] ys = refl
all_of-none (None ∷ xs) ys = refl
all_of-none (Some x ∷ xs) ys = ap (option_map (λ zs. x ∷ zs)) (all_of-none xs ys)

module _ {X A : Type 0} (meaning : X → Option A) (items : List X) (n : ℕ) (item : X) (within : n < length items) (is : item ≡ get_or items n item) where
  pub collected_more : (found : List A) (x : A) → all_of (map meaning (take n items)) ≡ Some found → meaning item ≡ Some x
      → all_of (map meaning (take (n + 1) items)) ≡ Some (found ++ x ∷ [])
  collected_more found x so_far here =
      ap (λ ws. all_of (map meaning ws)) (take_more items n item within ∙ ap (λ w. take n items ++ w ∷ []) (sym is))
      ∙ ap all_of (map-append meaning (take n items) (item ∷ []))
      ∙ ap (λ o. all_of (map meaning (take n items) ++ o ∷ [])) here
      ∙ all_of-more (map meaning (take n items)) found x so_far

  pub collected_none : meaning item ≡ None → all_of (map meaning items) ≡ None
  collected_none here =
      ap (λ ws. all_of (map meaning ws)) (sym (take-append-drop n items) ∙ ap (λ ws. take n items ++ ws) (drop-cons items n item within ∙ ap (λ w. w ∷ drop (suc n) items) (sym is)))
      ∙ ap all_of (map-append meaning (take n items) (item ∷ drop (suc n) items))
      ∙ ap (λ o. all_of (map meaning (take n items) ++ o ∷ map meaning (drop (suc n) items))) here
      ∙ all_of-none (map meaning (take n items)) (map meaning (drop (suc n) items))
