-- How the first item that has something is found, place by place.
use Rattle.std.proofs.Common.{◌≡◌, ℕ, ◌+◌, ◌<◌, List, [], ◌∷◌, ◌++◌, length, take, drop, map, get_or, Some, refl, sym, ap, ◌∙◌, subst, arith, append_assoc}
use Rattle.std.specs.Prelude.{slice_get}
use Rattle.std.specs.Option.{option_map}
use Rattle.std.proofs.lemmas.List.{take_more, drop_more, take-append-drop, length-take-le}
use Rattle.std.proofs.lemmas.Option.{slice_get-map, slice_get_read, slice_get_within, get_or_from_slice_get}
use Rattle.spelling.specs.Firsts.{FirstAt, NoneHas}
use Rattle.spelling.specs.FirstsCases as cases
use Rattle.spelling.specs.FirstsCases.{first_is_new, first_stays, none_at}

pub read_at : {X A : Type 0} (read : X → A) (xs : List X) (i : ℕ) (x : X) → i < length xs → x ≡ get_or xs i x → slice_get (map read xs) i ≡ Some (read x)
read_at read xs i x less is = slice_get-map read xs i ∙ ap (option_map read) (slice_get_read xs (length xs) i x refl less is)

module _ {A : Type 0} (items : List A) (i : ℕ) (x : A) (is : slice_get items i ≡ Some x) where
  pub take_one : take (i + 1) items ≡ take i items ++ x ∷ []
  take_one = take_more items i x (slice_get_within items i x is) ∙ ap (λ (z : A). take i items ++ z ∷ []) (get_or_from_slice_get items i x x is)

  pub drop_one : drop i items ≡ x ∷ drop (i + 1) items
  drop_one = drop_more items i x (slice_get_within items i x is) ∙ ap (λ (z : A). z ∷ drop (i + 1) items) (get_or_from_slice_get items i x x is)

  about : take i items ++ x ∷ drop (i + 1) items ≡ items
  about = ap (λ (l : List A). take i items ++ l) (sym drop_one) ∙ take-append-drop i items

module _ {A : Type 0} (Has : List A → A → Type 0) (items : List A) (i : ℕ) (x : A) where
  pub none_more : NoneHas Has (take i items) → slice_get items i ≡ Some x → (Has (take i items) x → ⊥) → NoneHas Has (take (i + 1) items)
  none_more none is not_ = subst (NoneHas Has) (sym (take_one items i x is)) (cases.none_more Has (take i items) x none not_)

  pub first_here : NoneHas Has (take i items) → slice_get items i ≡ Some x → Has (take i items) x → FirstAt Has items (i + 1)
  first_here none is has =
      let within : i < length items = slice_get_within items i x is in
      let place : length (take i items) + 1 ≡ i + 1 = omega (arith, length-take-le i items (omega arith)) in
      let first = first_stays Has (take i items ++ x ∷ []) (drop (i + 1) items) (length (take i items) + 1) (first_is_new Has (take i items) x none has) in
      subst (FirstAt Has items) place (subst (λ (l : List A). FirstAt Has l (length (take i items) + 1)) (append_assoc (take i items) (x ∷ []) (drop (i + 1) items) ∙ about items i x is) first)

  -- none has it, thus not this one
  pub none_here : NoneHas Has items → slice_get items i ≡ Some x → Has (take i items) x → ⊥
  none_here none is = none_at Has (take i items) (drop (i + 1) items) x (subst (NoneHas Has) (sym (about items i x is)) none)
