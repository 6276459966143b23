-- Laws of canonical orders.
use Rattle.std.proofs.Common.{◌≡◌, ℕ, ◌+◌, Bool, true, false, not, ◌&&◌, ◌||◌, nat_eq, nat_lt, List, [], ◌∷◌, ◌++◌, map, filter, fold, cond, refl, ap, sym, ◌∙◌, subst, ◌⊎◌, inl, inr, arith}
use Rattle.std.specs.Prelude.{Option, Some, None, if◌then◌else◌}
use Rattle.std.specs.List.{filter_map, cons_option}
use Rattle.std.proofs.lemmas.Bool.{eqb-true, eq-eqb, cases_Bool}
use Rattle.std.proofs.lemmas.Bool.Decides.{nat_tests}
use Rattle.star_model.specs.Vectors.{same_column, begins}
use Rattle.star_model.specs.declared.columns.Col.{Col}
use Rattle.star_model.specs.declared.query.Query.{Query}
use Rattle.star_model.specs.declared.query.Pred.{Pred}
use Rattle.star_model.specs.declared.query.Cmp.{Cmp}
use Rattle.star_model.specs.declared.query.Cmp.TheVariants as cmp
use Rattle.star_model.specs.declared.query.Operand.{Operand}
use Rattle.star_model.specs.declared.query.Operand.TheVariants as operand
use Rattle.star_model.specs.Sets.{has}
use Rattle.star_model.specs.Predicates.{those_in, preds_in}
use Rattle.star_model.specs.Canon.{ColPair, is_lower, lower, merged, after_merges, with_merge, merges, least_equal, distinct, canon_by, equal_columns, equality_within, equalities_within, canon}
use Rattle.star_model.proofs.BetterLaws.{columns_are}

-- x is an element
abbrev pub In : {X : Type 0} → X → List X → Type 0
In x [] = ⊥
In x (y ∷ ys) = (x ≡ y) ⊎ In x ys

-- each pair has one value
abbrev pub Agree : {A : Type 0} → (Col → A) → List ColPair → Type 0
Agree f [] = Unit {0}
Agree f (pair ∷ pairs) = (f pair.0 ≡ f pair.1) × Agree f pairs

lower_is : (c d : Col) → (lower c d ≡ c) ⊎ (lower c d ≡ d)
lower_is c d = pick (is_lower d c)
  where
    pick : (b : Bool) → ((if b then d else c) ≡ c) ⊎ ((if b then d else c) ≡ d)
    pick true = inr refl
    pick false = inl refl

-- what has one value at both columns of a pair is unchanged by their merge
merged_kept : {A : Type 0} (f : Col → A) (pair : ColPair) → f pair.0 ≡ f pair.1 → (x : Col) → f (merged pair x) ≡ f x
merged_kept f pair h x = pick (same_column x pair.0) refl (same_column x pair.1) refl
  where
    to_first : f (lower pair.0 pair.1) ≡ f pair.0
    to_first = elim (lower_is pair.0 pair.1) [ inl e ↦ ap f e | inr e ↦ ap f e ∙ sym h ]

    pick : (a : Bool) → same_column x pair.0 ≡ a → (b : Bool) → same_column x pair.1 ≡ b → f (if a || b then lower pair.0 pair.1 else x) ≡ f x
    pick true e b k = to_first ∙ ap f (sym (columns_are x pair.0 e))
    pick false e true k = to_first ∙ h ∙ ap f (sym (columns_are x pair.1 k))
    pick false e false k = refl

agree_push : {A : Type 0} (f : Col → A) (pairs : List ColPair) (pair : ColPair) → Agree f pairs → f pair.0 ≡ f pair.1 → Agree f (pairs ++ pair ∷ [])
agree_push f [] pair h e = (e, tt)
agree_push f (first ∷ pairs) pair h e = (h.0, agree_push f pairs pair h.1 e)

after_kept : {A : Type 0} (f : Col → A) (made : List ColPair) → Agree f made → (x : Col) → f (after_merges made x) ≡ f x
after_kept f [] h x = refl
after_kept f (pair ∷ made) h x = after_kept f made h.1 (merged pair x) ∙ merged_kept f pair h.0 x

agree_merges : {A : Type 0} (f : Col → A) (made pairs : List ColPair) → Agree f made → Agree f pairs → Agree f (fold with_merge made pairs)
agree_merges f made [] h k = h
agree_merges f made (pair ∷ pairs) h k =
    agree_merges f (with_merge made pair) pairs
    (agree_push f made (after_merges made pair.0, after_merges made pair.1) h (after_kept f made h pair.0 ∙ k.0 ∙ sym (after_kept f made h pair.1)))
    k.1

-- what has one value at both columns of each pair has it at the least equal column too
pub least_kept : {A : Type 0} (f : Col → A) (pairs : List ColPair) → Agree f pairs → (x : Col) → f (least_equal pairs x) ≡ f x
unfolding least_equal
least_kept f pairs h x = after_kept f (merges pairs) (agree_merges f [] pairs tt h) x

-- ---- the two columns of a pair have one least column

pub same_col : (c : Col) → same_column c c ≡ true
same_col c = ap (λ b. b && nat_eq c.column c.column) (eq-eqb c.quant.0 c.quant.0 refl) ∙ eq-eqb c.column c.column refl

merged_first : (x y : Col) → merged (x, y) x ≡ lower x y
merged_first x y = ap (λ b. if b || same_column x y then lower x y else x) (same_col x)

or_true : (a : Bool) → (a || true) ≡ true
or_true true = refl
or_true false = refl

merged_second : (x y : Col) → merged (x, y) y ≡ lower x y
merged_second x y = ap (λ b. if same_column y x || b then lower x y else y) (same_col y) ∙ ap (λ b. if b then lower x y else y) (or_true (same_column y x))

after_append : (made more : List ColPair) (x : Col) → after_merges (made ++ more) x ≡ after_merges more (after_merges made x)
after_append [] more x = refl
after_append (pair ∷ made) more x = after_append made more (merged pair x)

-- columns that are one after some merges stay one
stay_one : (pairs made : List ColPair) (x y : Col) → after_merges made x ≡ after_merges made y → after_merges (fold with_merge made pairs) x ≡ after_merges (fold with_merge made pairs) y
stay_one [] made x y h = h
stay_one (pair ∷ pairs) made x y h =
    let m : ColPair = (after_merges made pair.0, after_merges made pair.1) in
    stay_one pairs (with_merge made pair) x y (after_append made (m ∷ []) x ∙ ap (merged m) h ∙ sym (after_append made (m ∷ []) y))

become_one : (pairs made : List ColPair) (pair : ColPair) → In pair pairs → after_merges (fold with_merge made pairs) pair.0 ≡ after_merges (fold with_merge made pairs) pair.1
become_one [] made pair h = absurd h
become_one (first ∷ pairs) made pair (inl e) =
    let x = after_merges made first.0 in let y = after_merges made first.1 in
    let one : after_merges (with_merge made first) first.0 ≡ after_merges (with_merge made first) first.1 =
    after_append made ((x, y) ∷ []) first.0 ∙ merged_first x y ∙ sym (merged_second x y) ∙ sym (after_append made ((x, y) ∷ []) first.1) in
    ap (λ (p : ColPair). after_merges (fold with_merge made (first ∷ pairs)) p.0) e
    ∙ stay_one pairs (with_merge made first) first.0 first.1 one ∙ sym (ap (λ (p : ColPair). after_merges (fold with_merge made (first ∷ pairs)) p.1) e)
become_one (first ∷ pairs) made pair (inr h) = become_one pairs (with_merge made first) pair h

pub least_of_pair : (pairs : List ColPair) (pair : ColPair) → In pair pairs → least_equal pairs pair.0 ≡ least_equal pairs pair.1
unfolding least_equal
least_of_pair pairs pair h = become_one pairs [] pair h

agree_from : {A : Type 0} (f : Col → A) (pairs : List ColPair) → ((pair : ColPair) → In pair pairs → f pair.0 ≡ f pair.1) → Agree f pairs
agree_from f [] h = tt
agree_from f (pair ∷ pairs) h = (h pair (inl refl), agree_from f pairs (λ p i. h p (inr i)))

-- the least column by more equalities is that of the least column by some of them
pub least_of_least : (pairs more : List ColPair) → ((pair : ColPair) → In pair pairs → In pair more) → (x : Col) → least_equal more (least_equal pairs x) ≡ least_equal more x
least_of_least pairs more h x = least_kept (least_equal more) pairs (agree_from (least_equal more) pairs (λ p i. least_of_pair more p (h p i))) x

-- ---- lists without repeats

abbrev pub other : Col → Col → Bool
other c d = not (same_column c d)

filter_filter : (p r : Col → Bool) (xs : List Col) → filter p (filter r xs) ≡ filter r (filter p xs)
filter_filter p r [] = refl
filter_filter p r (x ∷ xs) = pick (p x) refl (r x) refl (filter_filter p r xs)
  where
    pick : (a : Bool) → p x ≡ a → (b : Bool) → r x ≡ b → filter p (filter r xs) ≡ filter r (filter p xs)
        → filter p (cond b (x ∷ filter r xs) (filter r xs)) ≡ filter r (cond a (x ∷ filter p xs) (filter p xs))
    pick true e true k rec = ap (λ c. cond c (x ∷ filter p (filter r xs)) (filter p (filter r xs))) e ∙ ap (λ ys. x ∷ ys) rec ∙ sym (ap (λ c. cond c (x ∷ filter r (filter p xs)) (filter r (filter p xs))) k)
    pick true e false k rec = rec ∙ sym (ap (λ c. cond c (x ∷ filter r (filter p xs)) (filter r (filter p xs))) k)
    pick false e true k rec = ap (λ c. cond c (x ∷ filter p (filter r xs)) (filter p (filter r xs))) e ∙ rec
    pick false e false k rec = rec

distinct_filter : (p : Col → Bool) (xs : List Col) → distinct (filter p xs) ≡ filter p (distinct xs)
distinct_filter p [] = refl
distinct_filter p (x ∷ xs) = pick (p x) refl (distinct_filter p xs)
  where
    pick : (b : Bool) → p x ≡ b → distinct (filter p xs) ≡ filter p (distinct xs)
        → distinct (cond b (x ∷ filter p xs) (filter p xs)) ≡ cond b (x ∷ filter p (filter (other x) (distinct xs))) (filter p (filter (other x) (distinct xs)))
    pick true e rec = ap (λ ys. x ∷ filter (other x) ys) rec ∙ ap (λ ys. x ∷ ys) (filter_filter (other x) p (distinct xs))
    pick false e rec = rec ∙ sym (dropped (distinct xs)) ∙ filter_filter (other x) p (distinct xs)
      where
        dropped : (ys : List Col) → filter (other x) (filter p ys) ≡ filter p ys
        dropped [] = refl
        dropped (y ∷ ys) = inner (p y) refl (same_column x y) refl (dropped ys)
          where
            inner : (a : Bool) → p y ≡ a → (c : Bool) → same_column x y ≡ c → filter (other x) (filter p ys) ≡ filter p ys
                → filter (other x) (cond a (y ∷ filter p ys) (filter p ys)) ≡ cond a (y ∷ filter p ys) (filter p ys)
            inner true k true s rec = let t : true ≡ false = sym k ∙ ap p (sym (columns_are x y s)) ∙ e in cc
            inner true k false s rec = ap (λ c. cond (not c) (y ∷ filter (other x) (filter p ys)) (filter (other x) (filter p ys))) s ∙ ap (λ zs. y ∷ zs) rec
            inner false k c s rec = rec

-- of columns that are all other than c, those that are mapped elsewhere are the same with c's left out
map_other : (f : Col → Col) (c : Col) (xs : List Col) → filter (other (f c)) (map f (filter (other c) xs)) ≡ filter (other (f c)) (map f xs)
map_other f c [] = refl
map_other f c (x ∷ xs) = pick (same_column c x) refl (map_other f c xs)
  where
    pick : (a : Bool) → same_column c x ≡ a → filter (other (f c)) (map f (filter (other c) xs)) ≡ filter (other (f c)) (map f xs)
        → filter (other (f c)) (map f (cond (not a) (x ∷ filter (other c) xs) (filter (other c) xs))) ≡ cond (not (same_column (f c) (f x))) (f x ∷ filter (other (f c)) (map f xs)) (filter (other (f c)) (map f xs))
    pick true e rec = rec ∙ sym (ap (λ b. cond (not b) (f x ∷ filter (other (f c)) (map f xs)) (filter (other (f c)) (map f xs))) (ap (λ d. same_column (f c) (f d)) (sym (columns_are c x e)) ∙ same_col (f c)))
    pick false e rec = ap (λ ys. cond (not (same_column (f c) (f x))) (f x ∷ ys) ys) rec

-- repeats may be left out before a map
distinct_map : (f : Col → Col) (xs : List Col) → distinct (map f (distinct xs)) ≡ distinct (map f xs)
distinct_map f [] = refl
distinct_map f (x ∷ xs) =
    ap (λ ys. f x ∷ ys)
    (sym (distinct_filter (other (f x)) (map f (filter (other x) (distinct xs)))) ∙ ap distinct (map_other f x (distinct xs)) ∙ distinct_filter (other (f x)) (map f (distinct xs))
    ∙ ap (filter (other (f x))) (distinct_map f xs))

map_map : (f g h : Col → Col) → ((x : Col) → f (g x) ≡ h x) → (xs : List Col) → map f (map g xs) ≡ map h xs
map_map f g h e [] = refl
map_map f g h e (x ∷ xs) = λ i. e x i ∷ map_map f g h e xs i

-- the canonical form by more equalities is that of the canonical form by some of them
pub canon_of_canon : (pairs more : List ColPair) → ((pair : ColPair) → In pair pairs → In pair more) → (cols : List Col) → canon_by more (canon_by pairs cols) ≡ canon_by more cols
canon_of_canon pairs more h cols =
    distinct_map (least_equal more) (map (least_equal pairs) cols) ∙ ap distinct (map_map (least_equal more) (least_equal pairs) (least_equal more) (least_of_least pairs more h) cols)

-- ---- prefixes

begins_filter : (p : Col → Bool) (xs ys : List Col) → begins xs ys ≡ true → begins (filter p xs) (filter p ys) ≡ true
unfolding begins
begins_filter p [] ys h = refl
begins_filter p (x ∷ xs) [] h = cc
begins_filter p (x ∷ xs) (y ∷ ys) h = pick (same_column x y) refl h (λ k. begins_filter p xs ys k)
  where
    pick : (a : Bool) → same_column x y ≡ a → (a && begins xs ys) ≡ true → (begins xs ys ≡ true → begins (filter p xs) (filter p ys) ≡ true)
        → begins (cond (p x) (x ∷ filter p xs) (filter p xs)) (cond (p y) (y ∷ filter p ys) (filter p ys)) ≡ true
    pick true e k rec = ap (λ z. begins (cond (p x) (x ∷ filter p xs) (filter p xs)) (cond (p z) (z ∷ filter p ys) (filter p ys))) (sym (columns_are x y e)) ∙ inner (p x) (rec k)
      where
        inner : (b : Bool) → begins (filter p xs) (filter p ys) ≡ true → begins (cond b (x ∷ filter p xs) (filter p xs)) (cond b (x ∷ filter p ys) (filter p ys)) ≡ true
        inner true r = ap (λ c. c && begins (filter p xs) (filter p ys)) (same_col x) ∙ r
        inner false r = r
    pick false e k rec = cc

begins_distinct : (xs ys : List Col) → begins xs ys ≡ true → begins (distinct xs) (distinct ys) ≡ true
unfolding begins
begins_distinct [] ys h = refl
begins_distinct (x ∷ xs) [] h = cc
begins_distinct (x ∷ xs) (y ∷ ys) h = pick (same_column x y) refl h (λ k. begins_distinct xs ys k)
  where
    pick : (a : Bool) → same_column x y ≡ a → (a && begins xs ys) ≡ true → (begins xs ys ≡ true → begins (distinct xs) (distinct ys) ≡ true)
        → (same_column x y && begins (filter (other x) (distinct xs)) (filter (other y) (distinct ys))) ≡ true
    pick true e k rec =
        ap (λ a. a && begins (filter (other x) (distinct xs)) (filter (other y) (distinct ys))) e
        ∙ ap (λ z. begins (filter (other x) (distinct xs)) (filter (other z) (distinct ys))) (sym (columns_are x y e))
        ∙ begins_filter (other x) (distinct xs) (distinct ys) (rec k)
    pick false e k rec = cc

begins_map : (f : Col → Col) (xs ys : List Col) → begins xs ys ≡ true → begins (map f xs) (map f ys) ≡ true
unfolding begins
begins_map f [] ys h = refl
begins_map f (x ∷ xs) [] h = cc
begins_map f (x ∷ xs) (y ∷ ys) h = pick (same_column x y) refl h (λ k. begins_map f xs ys k)
  where
    pick : (a : Bool) → same_column x y ≡ a → (a && begins xs ys) ≡ true → (begins xs ys ≡ true → begins (map f xs) (map f ys) ≡ true)
        → (same_column (f x) (f y) && begins (map f xs) (map f ys)) ≡ true
    pick true e k rec = ap (λ a. a && begins (map f xs) (map f ys)) (ap (λ z. same_column (f x) (f z)) (sym (columns_are x y e)) ∙ same_col (f x)) ∙ rec k
    pick false e k rec = cc

-- the canonical form of a prefix is a prefix of the canonical form
pub canon_begins : (pairs : List ColPair) (xs ys : List Col) → begins xs ys ≡ true → begins (canon_by pairs xs) (canon_by pairs ys) ≡ true
canon_begins pairs xs ys h = begins_distinct _ _ (begins_map (least_equal pairs) xs ys h)

-- ---- by the predicates of a query

-- what is an equality among some predicates is one among more, and of more quantifiers
pair_in : (s : ℕ) (pair : ColPair) (ps : List Pred) → In pair (filter_map (equality_within s) ps) → (p : Pred) × In p ps × (equality_within s p ≡ Some pair)
pair_in s pair [] h = absurd h
pair_in s pair (p ∷ ps) h = pick (equality_within s p) refl h (pair_in s pair ps)
  where
    pick : (o : Option ColPair) → equality_within s p ≡ o → In pair (cons_option o (filter_map (equality_within s) ps))
        → (In pair (filter_map (equality_within s) ps) → (r : Pred) × In r ps × (equality_within s r ≡ Some pair)) → (r : Pred) × In r (p ∷ ps) × (equality_within s r ≡ Some pair)
    pick None e i rec = let found = rec i in (found.0, inr found.1, found.2)
    pick (Some first) e (inl is) rec = (p, inl refl, e ∙ ap (λ x. Some x) (sym is))
    pick (Some first) e (inr i) rec = let found = rec i in (found.0, inr found.1, found.2)

in_pairs : (s : ℕ) (pair : ColPair) (p : Pred) (ps : List Pred) → In p ps → equality_within s p ≡ Some pair → In pair (filter_map (equality_within s) ps)
in_pairs s pair p [] h e = absurd h
in_pairs s pair p (first ∷ ps) h e = pick (equality_within s first) refl h (λ i. in_pairs s pair p ps i e)
  where
    pick : (o : Option ColPair) → equality_within s first ≡ o → (p ≡ first) ⊎ In p ps → (In p ps → In pair (filter_map (equality_within s) ps)) → In pair (cons_option o (filter_map (equality_within s) ps))
    pick None k (inl is) rec = let no : None ≡ Some pair = sym k ∙ sym (ap (equality_within s) is) ∙ e in absurd (cc)
    pick None k (inr i) rec = rec i
    pick (Some other) k (inl is) rec = let one : Some pair ≡ Some other = sym e ∙ ap (equality_within s) is ∙ k in inl (cc)
    pick (Some other) k (inr i) rec = inr (rec i)

wider : (s t : ℕ) → ((n : ℕ) → has s n ≡ true → has t n ≡ true) → (pair : ColPair) (c : Col) (o : Cmp) (r : Operand) → equal_columns s c o r ≡ Some pair → equal_columns t c o r ≡ Some pair
wider s t more pair c cmp.Eq (operand.Column d) e = pick (has s c.quant.0) refl (has s d.quant.0) refl e
  where
    pick : (a : Bool) → has s c.quant.0 ≡ a → (b : Bool) → has s d.quant.0 ≡ b → (if a && b then Some (c, d) else None) ≡ Some pair → (if has t c.quant.0 && has t d.quant.0 then Some (c, d) else None) ≡ Some pair
    pick true h true k i = (λ j. if more c.quant.0 h j && more d.quant.0 k j then Some (c, d) else None) ∙ i
    pick true h false k i = absurd cc
    pick false h b k i = absurd cc
wider s t more pair c cmp.Eq (operand.Constant x) e = absurd cc
wider s t more pair c cmp.Ne r e = absurd cc
wider s t more pair c cmp.Lt r e = absurd cc
wider s t more pair c cmp.Le r e = absurd cc
wider s t more pair c cmp.Gt r e = absurd cc
wider s t more pair c cmp.Ge r e = absurd cc

those_within : (preds more m : ℕ) → ((n : ℕ) → has preds n ≡ true → has more n ≡ true) → (p : Pred) (ps : List Pred) → In p (those_in preds m ps) → In p (those_in more m ps)
those_within preds more m h p [] i = absurd i
those_within preds more m h p (first ∷ ps) i = pick (has preds m) refl (has more m) refl i (those_within preds more (m + 1) h p ps)
  where
    pick : (a : Bool) → has preds m ≡ a → (b : Bool) → has more m ≡ b → In p (if a then first ∷ those_in preds (m + 1) ps else those_in preds (m + 1) ps)
        → (In p (those_in preds (m + 1) ps) → In p (those_in more (m + 1) ps)) → In p (if b then first ∷ those_in more (m + 1) ps else those_in more (m + 1) ps)
    pick true e true k (inl is) rec = inl is
    pick true e true k (inr j) rec = inr (rec j)
    pick true e false k j rec = let no : true ≡ false = sym (h m e) ∙ k in absurd cc
    pick false e true k j rec = inr (rec j)
    pick false e false k j rec = rec j

pub canon_again : (q : Query) (preds more s t : ℕ) → ((n : ℕ) → has preds n ≡ true → has more n ≡ true) → ((n : ℕ) → has s n ≡ true → has t n ≡ true)
    → (cols : List Col) → canon q more t (canon q preds s cols) ≡ canon q more t cols
unfolding canon
canon_again q preds more s t h k cols = canon_of_canon (equalities_within q preds s) (equalities_within q more t) inside cols
  where
    inside : (pair : ColPair) → In pair (equalities_within q preds s) → In pair (equalities_within q more t)
    inside pair i =
        let found = pair_in s pair (preds_in q preds) i in
        in_pairs t pair found.0 (preds_in q more) (those_within preds more 0 h found.0 q.preds found.1) (wider s t k pair found.0.left found.0.cmp found.0.right found.2)

pub canon_prefix : (q : Query) (preds s : ℕ) (xs ys : List Col) → begins xs ys ≡ true → begins (canon q preds s xs) (canon q preds s ys) ≡ true
unfolding canon
canon_prefix q preds s xs ys h = canon_begins (equalities_within q preds s) xs ys h
