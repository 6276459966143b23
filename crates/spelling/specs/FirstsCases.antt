-- A list has at most one first item of a kind, and none where none is of this kind, at no place; and which it is where the list grows.
-- (No clause of a function can say so of every property.)
use Rattle.std.specs.Prelude.{◌≡◌, ℕ, ◌+◌, List, [], ◌∷◌, ◌++◌, length}
use Rattle.std.proofs.Common.{ap, refl, sym, subst, add-one, append_assoc, append-nil}
use Prim.Native.Nat.{zero, suc}
use Rattle.spelling.specs.Firsts.{FirstFrom, NoneFrom, FirstAt, NoneHas}

pub one_first : {A : Type 0} (Has : List A → A → Type 0) (before items : List A) (n m : ℕ) → FirstFrom Has before items n → FirstFrom Has before items m → n ≡ m
one_first Has before items zero m p q = absurd p
one_first Has before items (suc n) zero p q = absurd q
one_first Has before [] (suc n) (suc m) p q = absurd p
one_first Has before (x ∷ xs) (suc zero) (suc zero) p q = refl
one_first Has before (x ∷ xs) (suc zero) (suc (suc m)) p q = absurd (q.0 p)
one_first Has before (x ∷ xs) (suc (suc n)) (suc zero) p q = absurd (p.0 q)
one_first Has before (x ∷ xs) (suc (suc n)) (suc (suc m)) p q = ap suc (one_first Has (before ++ x ∷ []) xs (suc n) (suc m) p.1 q.1)

pub none_first : {A : Type 0} (Has : List A → A → Type 0) (before items : List A) (n : ℕ) → NoneFrom Has before items → FirstFrom Has before items n → ⊥
none_first Has before items zero none p = p
none_first Has before [] (suc n) none p = p
none_first Has before (x ∷ xs) (suc zero) none p = none.0 p
none_first Has before (x ∷ xs) (suc (suc n)) none p = none_first Has (before ++ x ∷ []) xs (suc n) none.1 p.1

-- ---- one item, wherever it stands

module _ {A : Type 0} (Has : List A → A → Type 0) where
  none_from_at : (before early later : List A) (x : A) → NoneFrom Has before (early ++ x ∷ later) → Has (before ++ early) x → ⊥
  none_from_at before [] later x none has = none.0 (subst (λ (l : List A). Has l x) (append-nil before) has)
  none_from_at before (y ∷ early) later x none has =
      none_from_at (before ++ y ∷ []) early later x none.1 (subst (λ (l : List A). Has l x) (sym (append_assoc before (y ∷ []) early)) has)

  -- none has it, thus not this one
  pub none_at : (early later : List A) (x : A) → NoneHas Has (early ++ x ∷ later) → Has early x → ⊥
  none_at early later x none has = none_from_at [] early later x none has

-- ---- one item more at the end

module _ {A : Type 0} (Has : List A → A → Type 0) where
  none_from_more : (before items : List A) (x : A) → NoneFrom Has before items → (Has (before ++ items) x → ⊥) → NoneFrom Has before (items ++ x ∷ [])
  none_from_more before [] x none fine = ((λ has. fine (subst (λ (l : List A). Has l x) (sym (append-nil before)) has)), tt)
  none_from_more before (y ∷ items) x none fine =
      (none.0, none_from_more (before ++ y ∷ []) items x none.1 (λ has. fine (subst (λ (l : List A). Has l x) (append_assoc before (y ∷ []) items) has)))

  first_from_new : (before items : List A) (x : A) → NoneFrom Has before items → Has (before ++ items) x → FirstFrom Has before (items ++ x ∷ []) (suc (length items))
  first_from_new before [] x none has = subst (λ (l : List A). Has l x) (append-nil before) has
  first_from_new before (y ∷ items) x none has =
      (none.0, first_from_new (before ++ y ∷ []) items x none.1 (subst (λ (l : List A). Has l x) (sym (append_assoc before (y ∷ []) items)) has))

  first_from_stays : (before items later : List A) (n : ℕ) → FirstFrom Has before items n → FirstFrom Has before (items ++ later) n
  first_from_stays before items later zero first = absurd first
  first_from_stays before [] later (suc n) first = absurd first
  first_from_stays before (x ∷ items) later (suc zero) first = first
  first_from_stays before (x ∷ items) later (suc (suc n)) first = (first.0, first_from_stays (before ++ x ∷ []) items later (suc n) first.1)

  -- none has it, and nor does the new item
  pub none_more : (items : List A) (x : A) → NoneHas Has items → (Has items x → ⊥) → NoneHas Has (items ++ x ∷ [])
  none_more items x none fine = none_from_more [] items x none fine

  -- the new item is the first
  pub first_is_new : (items : List A) (x : A) → NoneHas Has items → Has items x → FirstAt Has (items ++ x ∷ []) (length items + 1)
  first_is_new items x none has = rw (add-one (length items)) (first_from_new [] items x none has)

  -- the first stays the first
  pub first_stays : (items later : List A) (n : ℕ) → FirstAt Has items n → FirstAt Has (items ++ later) n
  first_stays items later n first = first_from_stays [] items later n first
