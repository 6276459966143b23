-- The tables of a query, each by its first quantifier.
use Rattle.std.proofs.Common.{◌≡◌, ◌≤◌, ◌+◌, ◌<◌, ◌∙◌, ℕ, zero, suc, Bool, true, false, cond, List, [], ◌∷◌, ◌++◌, length, map, filter, take, get_or, refl, ap, sym, arith, inl, inr, eqb-true, eq-eqb, ltb-true}
use Rattle.std.specs.Prelude.{not, nat_eq, nat_lt, ◌||◌, slice_get, Option, Some, None, Contains}
use Rattle.std.specs.List.{list_any, list_all}
use Rattle.std.proofs.lemmas.Bool.{and_parts, and_from}
use Rattle.std.proofs.lemmas.List.{append-nil, length-map, map-append}
use Rattle.std.proofs.Math.Seq.{take-suc}
use Rattle.std.proofs.lemmas.List.Elements.{filter-append}
use Rattle.std.proofs.lemmas.List.Filters.{length-filter_both}
use Rattle.std.proofs.lemmas.List.Folds.{list_all-map}
use Rattle.std.proofs.lemmas.Map.Views.{any-filter_same}
use Rattle.std.proofs.lemmas.Bool.Decides.{eqb_tells}
use Rattle.star_model.specs.WellFormed.{WellFormedQuery}
use Rattle.star_model.specs.declared.query.Query.{Query}
use Rattle.star_model.specs.declared.query.QuantDef.{QuantDef}
use Rattle.table_taking.specs.QueryTables.{firsts, tables_of}

-- the numbers, and one more where it is none of them
abbrev pub with_number : List ℕ → ℕ → List ℕ
with_number ns n = cond (list_any (λ m. nat_eq m n) ns) ns (ns ++ n ∷ [])

module _ (p : ℕ → Bool) (n : ℕ) (ns : List ℕ) where
  lost : (b : Bool) → p n ≡ false → filter p (cond b ns (ns ++ n ∷ [])) ≡ filter p ns
  lost true h = refl
  lost false h = filter-append p ns (n ∷ []) ∙ (λ i. filter p ns ++ cond (h i) (n ∷ []) [])
      ∙ append-nil (filter p ns)

  kept : (b : Bool) → p n ≡ true → filter p (cond b ns (ns ++ n ∷ []))
      ≡ cond b (filter p ns) (filter p ns ++ n ∷ [])
  kept true h = refl
  kept false h = filter-append p ns (n ∷ []) ∙ (λ i. filter p ns ++ cond (h i) (n ∷ []) [])

behind : (b : Bool) (x : ℕ) (ls ms : List ℕ) → x ∷ cond b ls ms ≡ cond b (x ∷ ls) (x ∷ ms)
behind true x ls ms = refl
behind false x ls ms = refl

-- the number isn't the first one, so it is found behind that or not at all
not_first : (x n : ℕ) → nat_eq n x ≡ false → (k : ℕ) → nat_eq k n ≡ true → not (nat_eq k x) ≡ true
not_first x n h k is = (λ i. not (nat_eq (eqb-true k n is i) x)) ∙ ap not h

found_behind : (x n : ℕ) (ns : List ℕ) → nat_eq n x ≡ false
    → list_any (λ m. nat_eq m n) (filter (λ m. not (nat_eq m x)) ns) ≡ list_any (λ m. nat_eq m n) ns
found_behind x n ns h = any-filter_same (λ m. nat_eq m n) (λ m. not (nat_eq m x)) true
    (not_first x n h) ns

flipped : (n x : ℕ) (b : Bool) → nat_eq n x ≡ b → nat_eq x n ≡ b
flipped n x b h = grind arith

behind_first : (x n : ℕ) (ns : List ℕ) → x ∷ filter (λ m. not (nat_eq m x)) (with_number ns n)
    ≡ with_number (x ∷ filter (λ m. not (nat_eq m x)) ns) n
behind_first x n ns = elim (eqb_tells n x) [
  | inl is ↦ ap (λ ms. x ∷ ms) (lost p n ns any (ap not is.0))
      ∙ sym (λ i. cond (flipped n x true is.0 i || list_any (λ m. nat_eq m n) (filter p ns))
      (x ∷ filter p ns) (x ∷ filter p ns ++ n ∷ []))
  | inr other ↦ ap (λ ms. x ∷ ms) (kept p n ns any (ap not other.0))
      ∙ behind any x (filter p ns) (filter p ns ++ n ∷ [])
      ∙ sym (λ i. cond (flipped n x false other.0 i || found_behind x n ns other.0 i)
      (x ∷ filter p ns) (x ∷ filter p ns ++ n ∷ []))
]
  where
    p : ℕ → Bool
    p m = not (nat_eq m x)

    any : Bool
    any = list_any (λ m. nat_eq m n) ns

-- one number more
pub firsts_push : (ns : List ℕ) (n : ℕ) → firsts (ns ++ n ∷ []) ≡ with_number (firsts ns) n
firsts_push [] n = refl
firsts_push (x ∷ ns) n = ap (λ ms. x ∷ filter (λ m. not (nat_eq m x)) ms) (firsts_push ns n)
    ∙ behind_first x n (firsts ns)

-- the table of one quantifier more
pub next_table : (quants : List QuantDef) (place : ℕ) (d : QuantDef) (made next : List ℕ) (b : Bool)
    → place < length quants → d ≡ get_or quants place d
    → made ≡ firsts (map (λ d. d.table) (take place quants))
    → b ≡ list_any (λ m. nat_eq m d.table) made → next ≡ cond b made (made ++ d.table ∷ [])
    → next ≡ firsts (map (λ d. d.table) (take (place + 1) quants))
next_table quants place d made next b within is before test as_told =
    as_told ∙ (λ i. cond (test i) made (made ++ d.table ∷ []))
    ∙ ap (λ ns. with_number ns d.table) before
    ∙ sym (ap (λ ds. firsts (map (λ (d : QuantDef). d.table) ds)) more
    ∙ ap firsts (map-append (λ (d : QuantDef). d.table) (take place quants) (d ∷ []))
    ∙ firsts_push (map (λ d. d.table) (take place quants)) d.table)
  where
    more : take (place + 1) quants ≡ take place quants ++ d ∷ []
    more = ap (λ n. take n quants) one ∙ take-suc quants place d within
        ∙ ap (λ x. take place quants ++ x ∷ []) (sym is)
      where
        one : place + 1 ≡ suc place
        one = omega arith

-- ---- which numbers these are

any_first : (n : ℕ) (ns : List ℕ) → list_any (λ m. nat_eq m n) (firsts ns)
    ≡ list_any (λ m. nat_eq m n) ns
any_first n [] = refl
any_first n (x ∷ ns) = elim (eqb_tells n x) [
  | inl is ↦ (λ i. flipped n x true is.0 i || list_any (λ m. nat_eq m n)
      (filter (λ m. not (nat_eq m x)) (firsts ns)))
      ∙ sym (λ i. flipped n x true is.0 i || list_any (λ m. nat_eq m n) ns)
  | inr other ↦ ap (λ b. nat_eq x n || b) (found_behind x n (firsts ns) other.0 ∙ any_first n ns)
]

contained : (n : ℕ) (ns : List ℕ) → list_any (λ m. nat_eq m n) ns ≡ true → Contains ns n
contained n [] h = absurd cc
contained n (x ∷ ns) h = at (nat_eq x n) refl h (contained n ns)
  where
    at : (b : Bool) → nat_eq x n ≡ b → (b || list_any (λ m. nat_eq m n) ns) ≡ true
        → (list_any (λ m. nat_eq m n) ns ≡ true → Contains ns n) → Contains (x ∷ ns) n
    at true is h further = (0, omega arith, eqb-true x n is)
    at false is h further = let c = further h in (suc c.0, omega (arith, c.1), c.2)

table_any : (quants : List QuantDef) (place : ℕ) (d : QuantDef) → slice_get quants place ≡ Some d
    → list_any (λ m. nat_eq m d.table) (map (λ q. q.table) quants) ≡ true
table_any [] place d h = absurd cc
table_any (q ∷ quants) zero d h = ap (λ n. n || list_any (λ m. nat_eq m d.table)
    (map (λ q. q.table) quants)) (eq-eqb q.table d.table (ap (λ o. table_in o) h))
  where
    table_in : Option QuantDef → ℕ
    table_in None = 0
    table_in (Some q) = q.table
table_any (q ∷ quants) (suc place) d h = either (nat_eq q.table d.table)
    (table_any quants place d h)
  where
    either : (b : Bool) {c : Bool} → c ≡ true → (b || c) ≡ true
    either true h = refl
    either false h = h

-- the table of each quantifier is one of the query's
pub tables_hold : (q : Query) (place : ℕ) (d : QuantDef) → slice_get q.quants place ≡ Some d
    → Contains (tables_of q) d.table
tables_hold q place d is = contained d.table (tables_of q)
    (any_first d.table (map (λ d. d.table) q.quants) ∙ table_any q.quants place d is)

-- ---- how many they are, and what they have

few_kept : (p : ℕ → Bool) (ns : List ℕ) → length (filter p ns) ≤ length ns
few_kept p ns = omega (arith, length-filter_both p (λ n. not (p n)) (λ n. refl) ns)

few_firsts : (ns : List ℕ) → length (firsts ns) ≤ length ns
few_firsts [] = omega arith
few_firsts (n ∷ ns) = omega (arith, few_kept (λ m. not (nat_eq m n)) (firsts ns), few_firsts ns)

pub few_tables : (q : Query) → WellFormedQuery q → length (tables_of q) ≤ 12
few_tables q formed = omega (
  arith,
  few_firsts (map (λ d. d.table) q.quants),
  length-map q.quants
      (λ d. d.table),
  formed.some_quantifiers.1,
)

all_kept : (f p : ℕ → Bool) (ns : List ℕ) → list_all f ns ≡ true → list_all f (filter p ns) ≡ true
all_kept f p [] h = refl
all_kept f p (n ∷ ns) h = at (p n) (and_parts (f n) (list_all f ns) h).0
    (all_kept f p ns (and_parts (f n) (list_all f ns) h).1)
  where
    at : (b : Bool) → f n ≡ true → list_all f (filter p ns) ≡ true
        → list_all f (cond b (n ∷ filter p ns) (filter p ns)) ≡ true
    at true one all = and_from (f n) (list_all f (filter p ns)) one all
    at false one all = all

all_firsts : (f : ℕ → Bool) (ns : List ℕ) → list_all f ns ≡ true → list_all f (firsts ns) ≡ true
all_firsts f [] h = refl
all_firsts f (n ∷ ns) h =
    let parts = and_parts (f n) (list_all f ns) h in
    and_from (f n) (list_all f (filter (λ m. not (nat_eq m n)) (firsts ns))) parts.0
    (all_kept f (λ m. not (nat_eq m n)) (firsts ns) (all_firsts f ns parts.1))

at_place : (f : ℕ → Bool) (ns : List ℕ) (place n : ℕ) → list_all f ns ≡ true → slice_get ns place
    ≡ Some n → f n ≡ true
at_place f [] place n h is = absurd cc
at_place f (m ∷ ns) zero n h is = (λ i. f (first is i)) ∙ (and_parts (f m) (list_all f ns) h).0
  where
    number : Option ℕ → ℕ
    number None = 0
    number (Some n) = n

    first : Some m ≡ Some n → n ≡ m
    first is = sym (ap number is)
at_place f (m ∷ ns) (suc place) n h is = at_place f ns place n
    (and_parts (f m) (list_all f ns) h).1 is

-- each is the number of a table
pub tables_are_there : (q : Query) → WellFormedQuery q → (place n : ℕ)
    → slice_get (tables_of q) place ≡ Some n → n < length q.catalogue.tables
tables_are_there q formed place n is = ltb-true n (length q.catalogue.tables)
    (at_place (λ m. nat_lt m (length q.catalogue.tables)) (tables_of q) place n
    (all_firsts (λ m. nat_lt m (length q.catalogue.tables)) (map (λ d. d.table) q.quants)
    (list_all-map (λ m. nat_lt m (length q.catalogue.tables)) (λ (d : QuantDef). d.table) q.quants
    ∙ formed.tables)) is)
