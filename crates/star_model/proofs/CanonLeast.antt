-- The least equal column is equal, and no equal column is lower.
use Rattle.std.proofs.Common.{◌≡◌, ℕ, Bool, true, false, not, ◌&&◌, ◌||◌, nat_eq, nat_lt, List, [], ◌∷◌, ◌++◌, fold, refl, ap, sym, ◌∙◌, subst, ◌⊎◌, inl, inr, arith, ◌<◌, get_or, length}
use Prim.Native.Nat.{zero, suc}
use Rattle.std.specs.Prelude.{Contains, if◌then◌else◌}
use Rattle.std.proofs.lemmas.Bool.{eqb-true, eq-eqb}
use Rattle.std.proofs.lemmas.Bool.Decides.{nat_tests}
use Rattle.star_model.specs.Vectors.{same_column}
use Rattle.star_model.specs.declared.columns.Col.{Col}
use Rattle.star_model.specs.Canon.{ColPair, is_lower, lower, merged, after_merges, with_merge, merges, least_equal, IsLink, AreEqual, same, chained}
use Rattle.star_model.proofs.BetterLaws.{columns_are}
use Rattle.star_model.proofs.CanonLaws.{In, least_of_pair}

from_contains : {X : Type 0} (xs : List X) (x : X) (k : ℕ) → k < length xs → get_or xs k x ≡ x → In x xs
from_contains [] x k l e = absurd (omega arith)
from_contains (y ∷ xs) x zero l e = inl (sym e)
from_contains (y ∷ xs) x (suc k) l e = inr (from_contains xs x k (omega arith) e)

to_contains : {X : Type 0} (xs : List X) (x : X) → In x xs → Contains xs x
to_contains [] x h = absurd h
to_contains (y ∷ xs) x (inl e) = (0, omega arith, sym e)
to_contains (y ∷ xs) x (inr h) = let c = to_contains xs x h in (suc c.0, omega arith, c.2)

-- ---- equal columns have one least column

linked : (pairs : List ColPair) (x y : Col) → IsLink pairs x y → least_equal pairs x ≡ least_equal pairs y
linked pairs x y (inl c) = least_of_pair pairs (x, y) (from_contains pairs (x, y) c.0 c.1 c.2)
linked pairs x y (inr c) = sym (least_of_pair pairs (y, x) (from_contains pairs (y, x) c.0 c.1 c.2))

pub equal_least : (pairs : List ColPair) (x y : Col) → AreEqual pairs x y → least_equal pairs x ≡ least_equal pairs y
equal_least pairs x _ (same _) = refl
equal_least pairs x z (chained _ y _ h l) = equal_least pairs x y h ∙ linked pairs y z l

-- ---- equality by chains

joined : (pairs : List ColPair) (x y z : Col) → AreEqual pairs x y → AreEqual pairs y z → AreEqual pairs x z
joined pairs x y _ h (same _) = h
joined pairs x y z h (chained _ w _ k l) = chained x w z (joined pairs x y w h k) l

turned_link : (pairs : List ColPair) (x y : Col) → IsLink pairs x y → IsLink pairs y x
turned_link pairs x y (inl c) = inr c
turned_link pairs x y (inr c) = inl c

turned : (pairs : List ColPair) (x y : Col) → AreEqual pairs x y → AreEqual pairs y x
turned pairs x _ (same _) = same x
turned pairs x z (chained _ y _ h l) = joined pairs z y x (chained z z y (same z) (turned_link pairs y z l)) (turned pairs x y h)

lower_is : (c d : Col) → (lower c d ≡ c) ⊎ (lower c d ≡ d)
lower_is c d = pick (is_lower d c)
  where
    pick : (b : Bool) → ((if b then d else c) ≡ c) ⊎ ((if b then d else c) ≡ d)
    pick true = inr refl
    pick false = inl refl

-- each merge is of columns that are equal
abbrev AreJoined : List ColPair → List ColPair → Type 0
AreJoined pairs [] = Unit {0}
AreJoined pairs (m ∷ made) = AreEqual pairs m.0 m.1 × AreJoined pairs made

joined_push : (pairs made : List ColPair) (m : ColPair) → AreJoined pairs made → AreEqual pairs m.0 m.1 → AreJoined pairs (made ++ m ∷ [])
joined_push pairs [] m h e = (e, tt)
joined_push pairs (n ∷ made) m h e = (h.0, joined_push pairs made m h.1 e)

merged_equal : (pairs : List ColPair) (m : ColPair) → AreEqual pairs m.0 m.1 → (x : Col) → AreEqual pairs x (merged m x)
merged_equal pairs m h x = pick (same_column x m.0) refl (same_column x m.1) refl
  where
    to_lower : AreEqual pairs m.0 (lower m.0 m.1)
    to_lower = elim (lower_is m.0 m.1) [ inl e ↦ subst (AreEqual pairs m.0) (sym e) (same m.0) | inr e ↦ subst (AreEqual pairs m.0) (sym e) h ]

    pick : (s : Bool) → same_column x m.0 ≡ s → (t : Bool) → same_column x m.1 ≡ t → AreEqual pairs x (if s || t then lower m.0 m.1 else x)
    pick true e t k = subst (λ y. AreEqual pairs y (lower m.0 m.1)) (sym (columns_are x m.0 e)) to_lower
    pick false e true k = subst (λ y. AreEqual pairs y (lower m.0 m.1)) (sym (columns_are x m.1 k)) (joined pairs m.1 m.0 (lower m.0 m.1) (turned pairs m.0 m.1 h) to_lower)
    pick false e false k = same x

after_equal : (pairs made : List ColPair) → AreJoined pairs made → (x : Col) → AreEqual pairs x (after_merges made x)
after_equal pairs [] h x = same x
after_equal pairs (m ∷ made) h x = joined pairs x (merged m x) (after_merges made (merged m x)) (merged_equal pairs m h.0 x) (after_equal pairs made h.1 (merged m x))

merges_join : (pairs made more : List ColPair) → AreJoined pairs made → ((pair : ColPair) → In pair more → In pair pairs) → AreJoined pairs (fold with_merge made more)
merges_join pairs made [] h k = h
merges_join pairs made (pair ∷ more) h k =
    merges_join pairs (with_merge made pair) more
    (joined_push pairs made (after_merges made pair.0, after_merges made pair.1) h
    (joined pairs (after_merges made pair.0) pair.0 (after_merges made pair.1) (turned pairs pair.0 (after_merges made pair.0) (after_equal pairs made h pair.0))
    (joined pairs pair.0 pair.1 (after_merges made pair.1) (chained pair.0 pair.0 pair.1 (same pair.0) (inl (to_contains pairs (pair.0, pair.1) (k pair (inl refl))))) (after_equal pairs made h pair.1))))
    (λ p i. k p (inr i))

-- the least equal column is equal
pub least_is_equal : (pairs : List ColPair) (x : Col) → AreEqual pairs x (least_equal pairs x)
unfolding least_equal
least_is_equal pairs x = after_equal pairs (merges pairs) (merges_join pairs [] pairs tt (λ p i. i)) x

-- ---- the least column is not above

not_lower : (c d x : Col) → is_lower c d ≡ false → is_lower d x ≡ false → is_lower c x ≡ false
not_lower c d x h k = grind (arith, nat_tests)

not_lower_itself : (c : Col) → is_lower c c ≡ false
not_lower_itself c = grind (arith, nat_tests)

is_lower_back : (c d : Col) → is_lower d c ≡ true → is_lower c d ≡ false
is_lower_back c d h = grind (arith, nat_tests)

merged_not_above : (pair : ColPair) (z x : Col) → is_lower x z ≡ false → is_lower x (merged pair z) ≡ false
merged_not_above pair z x h = pick (same_column z pair.0) refl (same_column z pair.1) refl
  where
    below_first : is_lower pair.0 (lower pair.0 pair.1) ≡ false
    below_first = inner (is_lower pair.1 pair.0) refl
      where
        inner : (b : Bool) → is_lower pair.1 pair.0 ≡ b → is_lower pair.0 (if b then pair.1 else pair.0) ≡ false
        inner true e = is_lower_back pair.0 pair.1 e
        inner false e = not_lower_itself pair.0

    below_second : is_lower pair.1 (lower pair.0 pair.1) ≡ false
    below_second = inner (is_lower pair.1 pair.0) refl
      where
        inner : (b : Bool) → is_lower pair.1 pair.0 ≡ b → is_lower pair.1 (if b then pair.1 else pair.0) ≡ false
        inner true e = not_lower_itself pair.1
        inner false e = e

    pick : (s : Bool) → same_column z pair.0 ≡ s → (t : Bool) → same_column z pair.1 ≡ t → is_lower x (if s || t then lower pair.0 pair.1 else z) ≡ false
    pick true e t k = not_lower x z (lower pair.0 pair.1) h (subst (λ y. is_lower y (lower pair.0 pair.1) ≡ false) (sym (columns_are z pair.0 e)) below_first)
    pick false e true k = not_lower x z (lower pair.0 pair.1) h (subst (λ y. is_lower y (lower pair.0 pair.1) ≡ false) (sym (columns_are z pair.1 k)) below_second)
    pick false e false k = h

after_not_above : (made : List ColPair) (z x : Col) → is_lower x z ≡ false → is_lower x (after_merges made z) ≡ false
after_not_above [] z x h = h
after_not_above (m ∷ made) z x h = after_not_above made (merged m z) x (merged_not_above m z x h)

not_above : (pairs : List ColPair) (x : Col) → is_lower x (least_equal pairs x) ≡ false
unfolding least_equal
not_above pairs x = after_not_above (merges pairs) x x (not_lower_itself x)

-- no equal column is lower
pub none_is_lower : (pairs : List ColPair) (x y : Col) → AreEqual pairs x y → is_lower y (least_equal pairs x) ≡ false
none_is_lower pairs x y h = subst (λ z. is_lower y z ≡ false) (sym (equal_least pairs x y h)) (not_above pairs y)
