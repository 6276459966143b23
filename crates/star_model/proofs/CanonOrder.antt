-- A list of columns and its canonical form sort alike where the equalities hold.
use Rattle.std.proofs.Common.{◌≡◌, ℕ, ℤ, Bool, true, false, not, ◌&&◌, ◌||◌, nat_eq, nat_lt, List, [], ◌∷◌, map, filter, cond, refl, ap, sym, ◌∙◌, subst, ◌⊎◌, inl, inr, arith}
use Rattle.std.specs.Prelude.{int_lt}
use Rattle.std.specs.Ordering.{int_eq, ordering_then}
use Rattle.std.specs.Cmp.Lexicographic.{slice_cmp}
use Rattle.std.specs.declared.cmp.Ordering.{Ordering}
use Rattle.std.specs.declared.cmp.Ordering.TheVariants.{Less, Equal, Greater}
use Rattle.std.proofs.lemmas.Bool.Decides.{nat_tests, Decides-int_eq}
use Rattle.star_model.specs.Vectors.{same_column}
use Rattle.star_model.specs.Answers.{bytes_below, is_below, is_same, stands_before}
use Rattle.star_model.specs.declared.columns.Col.{Col}
use Rattle.star_model.specs.declared.catalogue.Value.{Value}
use Rattle.star_model.specs.declared.catalogue.Value.TheVariants.{Int, Text}
use Rattle.star_model.specs.Canon.{ColPair, least_equal, distinct, canon_by}
use Rattle.star_model.proofs.BetterLaws.{same_are, columns_are}
use Rattle.star_model.proofs.CanonLaws.{Agree, least_kept}

-- ---- by any comparison of values of which each is equal to itself

map_same : {A : Type 0} (f g : Col → A) → ((c : Col) → f c ≡ g c) → (cols : List Col) → map f cols ≡ map g cols
map_same f g e [] = refl
map_same f g e (c ∷ cols) = λ i. e c i ∷ map_same f g e cols i

map_least : {A : Type 0} (f : Col → A) (pairs : List ColPair) → Agree f pairs → (cols : List Col) → map f (map (least_equal pairs) cols) ≡ map f cols
map_least f pairs h [] = refl
map_least f pairs h (c ∷ cols) = λ i. least_kept f pairs h c i ∷ map_least f pairs h cols i

module _ {A : Type 0} (R : A → A → Ordering) (v w : Col → A) where
  -- where the values of c are equal, it decides nothing
  without_tied : (c : Col) → R (v c) (w c) ≡ Equal → (cols : List Col)
      → slice_cmp R (map v (filter (λ d. not (same_column c d)) cols)) (map w (filter (λ d. not (same_column c d)) cols)) ≡ slice_cmp R (map v cols) (map w cols)
  without_tied c tied [] = refl
  without_tied c tied (d ∷ cols) = pick (same_column c d) refl (filter (λ d. not (same_column c d)) cols) (without_tied c tied cols)
    where
      pick : (a : Bool) → same_column c d ≡ a → (kept : List Col) → slice_cmp R (map v kept) (map w kept) ≡ slice_cmp R (map v cols) (map w cols)
          → slice_cmp R (map v (cond (not a) (d ∷ kept) kept)) (map w (cond (not a) (d ∷ kept) kept)) ≡ ordering_then (R (v d) (w d)) (slice_cmp R (map v cols) (map w cols))
      pick true e kept rec = rec ∙ sym (ap (λ o. ordering_then o (slice_cmp R (map v cols) (map w cols))) (ap (λ x. R (v x) (w x)) (sym (columns_are c d e)) ∙ tied))
      pick false e kept rec = ap (ordering_then (R (v d) (w d))) rec

  same_by_distinct : (cols : List Col) → slice_cmp R (map v (distinct cols)) (map w (distinct cols)) ≡ slice_cmp R (map v cols) (map w cols)
  same_by_distinct [] = refl
  same_by_distinct (c ∷ cols) = pick (R (v c) (w c)) refl (same_by_distinct cols)
    where
      pick : (o : Ordering) → R (v c) (w c) ≡ o → slice_cmp R (map v (distinct cols)) (map w (distinct cols)) ≡ slice_cmp R (map v cols) (map w cols)
          → ordering_then o (slice_cmp R (map v (filter (λ d. not (same_column c d)) (distinct cols))) (map w (filter (λ d. not (same_column c d)) (distinct cols)))) ≡ ordering_then o (slice_cmp R (map v cols) (map w cols))
      pick Less e rec = refl
      pick Greater e rec = refl
      pick Equal e rec = without_tied c e (distinct cols) ∙ rec

  pub same_by_canon : (pairs : List ColPair) → Agree v pairs → Agree w pairs → (cols : List Col) → slice_cmp R (map v (canon_by pairs cols)) (map w (canon_by pairs cols)) ≡ slice_cmp R (map v cols) (map w cols)
  same_by_canon pairs h k cols =
      same_by_distinct (map (least_equal pairs) cols) ∙ (λ i. slice_cmp R (map_least v pairs h cols i) (map_least w pairs k cols i))

-- ---- by the comparison of the answers

int_not_below : (n : ℤ) → int_lt n n ≡ false
int_not_below n = grind (arith, nat_tests)

bytes_not_below : (bs : List ℕ) → bytes_below bs bs ≡ false
unfolding bytes_below
bytes_not_below [] = refl
bytes_not_below (b ∷ bs) = grind (arith, nat_tests, bytes_not_below bs)

not_below : (v : Value) → is_below v v ≡ false
not_below (Int n) = int_not_below n
not_below (Text bs) = bytes_not_below bs

ints_are : (n m : ℤ) → int_eq n m ≡ true → n ≡ m
ints_are n m h = (Decides-int_eq n m).0 h

-- values that are the same are equal
pub values_are : (v w : Value) → is_same v w ≡ true → v ≡ w
values_are (Int n) (Int m) h = ap (λ k. Int k) (ints_are n m h)
values_are (Int n) (Text b) h = cc
values_are (Text b) (Int n) h = cc
values_are (Text b) (Text c) h = ap (λ k. Text k) (same_are b c h)

same_not_below : (v w : Value) → is_same v w ≡ true → is_below v w ≡ false
same_not_below v w h = ap (λ x. is_below v x) (sym (values_are v w h)) ∙ not_below v

module _ (v w : Col → Value) where
  without_same : (c : Col) → is_same (v c) (w c) ≡ true → (cols : List Col)
      → stands_before (map v (filter (λ d. not (same_column c d)) cols)) (map w (filter (λ d. not (same_column c d)) cols)) ≡ stands_before (map v cols) (map w cols)
  without_same c tied [] = refl
  without_same c tied (d ∷ cols) = pick (same_column c d) refl (filter (λ d. not (same_column c d)) cols) (without_same c tied cols)
    where
      pick : (a : Bool) → same_column c d ≡ a → (kept : List Col) → stands_before (map v kept) (map w kept) ≡ stands_before (map v cols) (map w cols)
          → stands_before (map v (cond (not a) (d ∷ kept) kept)) (map w (cond (not a) (d ∷ kept) kept)) ≡ (is_below (v d) (w d) || (is_same (v d) (w d) && stands_before (map v cols) (map w cols)))
      pick true e kept rec =
          let t : is_same (v d) (w d) ≡ true = ap (λ x. is_same (v x) (w x)) (sym (columns_are c d e)) ∙ tied in
          rec ∙ sym ((λ i. same_not_below (v d) (w d) t i || (t i && stands_before (map v cols) (map w cols))))
      pick false e kept rec = ap (λ b. is_below (v d) (w d) || (is_same (v d) (w d) && b)) rec

  stands_by_distinct : (cols : List Col) → stands_before (map v (distinct cols)) (map w (distinct cols)) ≡ stands_before (map v cols) (map w cols)
  stands_by_distinct [] = refl
  stands_by_distinct (c ∷ cols) = pick (is_same (v c) (w c)) refl (stands_by_distinct cols)
    where
      pick : (s : Bool) → is_same (v c) (w c) ≡ s → stands_before (map v (distinct cols)) (map w (distinct cols)) ≡ stands_before (map v cols) (map w cols)
          → (is_below (v c) (w c) || (s && stands_before (map v (filter (λ d. not (same_column c d)) (distinct cols))) (map w (filter (λ d. not (same_column c d)) (distinct cols)))))
          ≡ (is_below (v c) (w c) || (s && stands_before (map v cols) (map w cols)))
      pick true e rec = ap (λ b. is_below (v c) (w c) || b) (without_same c e (distinct cols) ∙ rec)
      pick false e rec = refl

  -- by a list of columns one stands before the other exactly where it does by the canonical form
  pub stands_by_canon : (pairs : List ColPair) → Agree v pairs → Agree w pairs → (cols : List Col)
      → stands_before (map v (canon_by pairs cols)) (map w (canon_by pairs cols)) ≡ stands_before (map v cols) (map w cols)
  stands_by_canon pairs h k cols =
      stands_by_distinct (map (least_equal pairs) cols) ∙ (λ i. stands_before (map_least v pairs h cols i) (map_least w pairs k cols i))
