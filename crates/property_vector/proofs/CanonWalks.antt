-- Canonical forms, found column by column.
use Rattle.std.proofs.Common.{◌≡◌, ℕ, ◌+◌, ◌<◌, ◌≤◌, Bool, true, false, not, ◌&&◌, ◌||◌, nat_eq, List, [], ◌∷◌, ◌++◌, length, map, filter, take, cond, refl, ap, sym, ◌∙◌, arith, get_or}
use Prim.Native.Nat.{zero, suc}
use Rattle.std.specs.Prelude.{if◌then◌else◌, Option, Some, None}
use Rattle.std.specs.List.{list_any, filter_map, cons_option}
use Rattle.std.proofs.lemmas.List.Elements.{filter-append, filter_map-append}
use Rattle.std.proofs.lemmas.List.{length-append}
use Rattle.std.proofs.lemmas.Bool.{eqb-true, eq-eqb, and_parts, and_from}
use Rattle.star_model.specs.Sets.{has}
use Rattle.star_model.specs.Predicates.{those_in}
use Rattle.star_model.specs.Vectors.{same_column}
use Rattle.star_model.specs.declared.columns.Col.{Col}
use Rattle.star_model.specs.declared.query.Pred.{Pred}
use Rattle.star_model.specs.Canon.{ColPair, equality_within, after_merges, distinct}

abbrev other : Col → Col → Bool
other c d = not (same_column c d)

columns_are : (c d : Col) → same_column c d ≡ true → c ≡ d
columns_are c d h = let both = and_parts _ _ h in (λ i. record { quant = record { 0 = eqb-true c.quant.0 d.quant.0 both.0 i }; column = eqb-true c.column d.column both.1 i })

same_col : (c : Col) → same_column c c ≡ true
same_col c = and_from _ _ (eq-eqb c.quant.0 c.quant.0 refl) (eq-eqb c.column c.column refl)

-- the list with the column at its end, unless it has it
abbrev pub with_new : List Col → Col → List Col
with_new list c = if list_any (same_column c) list then list else list ++ c ∷ []

turned : (c d : Col) (b : Bool) → same_column c d ≡ b → same_column d c ≡ b
turned c d true h = ap (same_column d) (columns_are c d h) ∙ same_col d
turned c d false h = pick (same_column d c) refl
  where
    pick : (b : Bool) → same_column d c ≡ b → b ≡ false
    pick true e = let t : true ≡ false = sym (ap (same_column c) (columns_are d c e) ∙ same_col c) ∙ h in t
    pick false e = refl

-- whether a column is in the list is so without repeats too
any_other : (c x : Col) → same_column c x ≡ false → (ys : List Col) → list_any (same_column c) (filter (other x) ys) ≡ list_any (same_column c) ys
any_other c x h [] = refl
any_other c x h (y ∷ ys) = pick (same_column x y) refl (any_other c x h ys)
  where
    pick : (b : Bool) → same_column x y ≡ b → list_any (same_column c) (filter (other x) ys) ≡ list_any (same_column c) ys
        → list_any (same_column c) (cond (not b) (y ∷ filter (other x) ys) (filter (other x) ys)) ≡ (same_column c y || list_any (same_column c) ys)
    pick true e rec = rec ∙ sym (ap (λ b. b || list_any (same_column c) ys) (ap (same_column c) (sym (columns_are x y e)) ∙ h))
    pick false e rec = ap (λ b. same_column c y || b) rec

any_distinct : (c : Col) (xs : List Col) → list_any (same_column c) (distinct xs) ≡ list_any (same_column c) xs
any_distinct c [] = refl
any_distinct c (x ∷ xs) = pick (same_column c x) refl (any_distinct c xs)
  where
    pick : (b : Bool) → same_column c x ≡ b → list_any (same_column c) (distinct xs) ≡ list_any (same_column c) xs
        → (b || list_any (same_column c) (filter (other x) (distinct xs))) ≡ (b || list_any (same_column c) xs)
    pick true e rec = refl
    pick false e rec = any_other c x e (distinct xs) ∙ rec

filter_one : (x c : Col) (b : Bool) → same_column c x ≡ b → filter (other x) (c ∷ []) ≡ (if b then [] else c ∷ [])
filter_one x c b h = ap (λ t. cond (not t) (c ∷ []) []) (turned c x b h) ∙ at b
  where
    at : (b : Bool) → cond (not b) (c ∷ []) [] ≡ (if b then [] else c ∷ [])
    at true = refl
    at false = refl

append_nothing : (xs : List Col) → xs ++ [] ≡ xs
append_nothing [] = refl
append_nothing (x ∷ xs) = ap (λ ys. x ∷ ys) (append_nothing xs)

distinct_push : (xs : List Col) (c : Col) → distinct (xs ++ c ∷ []) ≡ distinct xs ++ (if list_any (same_column c) xs then [] else c ∷ [])
distinct_push [] c = refl
distinct_push (x ∷ xs) c =
    ap (λ ys. x ∷ filter (other x) ys) (distinct_push xs c)
    ∙ ap (λ ys. x ∷ ys) (filter-append (other x) (distinct xs) (if list_any (same_column c) xs then [] else c ∷ []))
    ∙ ap (λ ys. x ∷ (filter (other x) (distinct xs) ++ ys)) (pick (list_any (same_column c) xs) (same_column c x) refl)
  where
    pick : (a b : Bool) → same_column c x ≡ b → filter (other x) (if a then [] else c ∷ []) ≡ (if b || a then [] else c ∷ [])
    pick true true e = refl
    pick true false e = refl
    pick false true e = filter_one x c true e
    pick false false e = filter_one x c false e

with_new_is : (xs : List Col) (c : Col) → with_new (distinct xs) c ≡ distinct (xs ++ c ∷ [])
with_new_is xs c = ap (λ b. if b then distinct xs else distinct xs ++ c ∷ []) (any_distinct c xs) ∙ pick (list_any (same_column c) xs) ∙ sym (distinct_push xs c)
  where
    pick : (b : Bool) → (if b then distinct xs else distinct xs ++ c ∷ []) ≡ distinct xs ++ (if b then [] else c ∷ [])
    pick true = sym (append_nothing (distinct xs))
    pick false = refl

map_more : (f : Col → Col) (xs : List Col) (k : ℕ) (d : Col) → k < length xs → map f (take (k + 1) xs) ≡ map f (take k xs) ++ f (get_or xs k d) ∷ []
map_more f [] k d l = absurd (omega arith)
map_more f (x ∷ xs) zero d l = refl
map_more f (x ∷ xs) (suc k) d l = let next : suc k + 1 ≡ suc (k + 1) = omega arith in rw next (ap (λ ys. f x ∷ ys) (map_more f xs k d (omega arith)))

pub canon_none : (made : List ColPair) → [] ≡ distinct (map (after_merges made) [])
canon_none made = refl

pub canon_more : (made : List ColPair) (columns : List Col) (k : ℕ) (d : Col) → k < length columns
    → with_new (distinct (map (after_merges made) (take k columns))) (after_merges made (get_or columns k d)) ≡ distinct (map (after_merges made) (take (k + 1) columns))
canon_more made columns k d l = with_new_is (map (after_merges made) (take k columns)) (after_merges made (get_or columns k d)) ∙ ap distinct (sym (map_more (after_merges made) columns k d l))

pub one_longer : (list : List Col) (c : Col) (k : ℕ) → length list ≤ k → length (with_new list c) ≤ k + 1
one_longer list c k h = pick (list_any (same_column c) list)
  where
    pick : (b : Bool) → length (if b then list else list ++ c ∷ []) ≤ k + 1
    pick true = omega (arith, h)
    pick false = omega (arith, h, length-append list (c ∷ []))

-- ---- the predicates of a set, one after another

those_more : (set m : ℕ) (preds : List Pred) (k n : ℕ) (d : Pred) → n ≡ m + k → k < length preds
    → those_in set m (take (k + 1) preds) ≡ those_in set m (take k preds) ++ (if has set n then get_or preds k d ∷ [] else [])
those_more set m [] k n d e l = absurd (omega arith)
those_more set m (p ∷ preds) zero n d e l = let same : n ≡ m = omega (arith, e) in ap (λ n. if has set n then p ∷ [] else []) (sym same)
those_more set m (p ∷ preds) (suc k) n d e l =
    let next : suc k + 1 ≡ suc (k + 1) = omega arith in
    rw next (pick (has set m) (those_more set (m + 1) preds k n d (omega (arith, e)) (omega arith)))
  where
    pick : (b : Bool) → those_in set (m + 1) (take (k + 1) preds) ≡ those_in set (m + 1) (take k preds) ++ (if has set n then get_or preds k d ∷ [] else [])
        → (if b then p ∷ those_in set (m + 1) (take (k + 1) preds) else those_in set (m + 1) (take (k + 1) preds))
        ≡ (if b then p ∷ those_in set (m + 1) (take k preds) else those_in set (m + 1) (take k preds)) ++ (if has set n then get_or preds k d ∷ [] else [])
    pick true rec = ap (λ ys. p ∷ ys) rec
    pick false rec = rec

pub equalities_more : (tables set : ℕ) (preds : List Pred) (k : ℕ) (d : Pred) → k < length preds
    → filter_map (equality_within tables) (those_in set 0 (take k preds)) ++ (if has set k then cons_option (equality_within tables (get_or preds k d)) [] else [])
    ≡ filter_map (equality_within tables) (those_in set 0 (take (k + 1) preds))
equalities_more tables set preds k d l =
    pick (has set k)
    ∙ sym (filter_map-append (equality_within tables) (those_in set 0 (take k preds)) (if has set k then get_or preds k d ∷ [] else []))
    ∙ ap (filter_map (equality_within tables)) (sym (those_more set 0 preds k k d (omega arith) l))
  where
    pick : (b : Bool) → filter_map (equality_within tables) (those_in set 0 (take k preds)) ++ (if b then cons_option (equality_within tables (get_or preds k d)) [] else [])
        ≡ filter_map (equality_within tables) (those_in set 0 (take k preds)) ++ filter_map (equality_within tables) (if b then get_or preds k d ∷ [] else [])
    pick true = refl
    pick false = refl

pub pair_longer : (pairs : List ColPair) (b : Bool) (o : Option ColPair) (k : ℕ) → length pairs ≤ k → length (pairs ++ (if b then cons_option o [] else [])) ≤ k + 1
pair_longer pairs true None k h = omega (arith, h, length-append pairs [])
pair_longer pairs true (Some pair) k h = omega (arith, h, length-append pairs (pair ∷ []))
pair_longer pairs false o k h = omega (arith, h, length-append pairs [])
