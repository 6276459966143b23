-- What a set of borrowed names finds once one more is inserted.
use Rattle.std.proofs.Common.{◌≡◌, ℕ, Bool, true, false, cond, ◌&&◌, ◌||◌, List, [], ◌∷◌, ◌++◌, Bor, refl, sym, ◌∙◌}
use Rattle.std.specs.List.{list_any}
use Rattle.std.proofs.lemmas.List.Folds.{list_any-append}
use Rattle.std.proofs.lemmas.Bool.{and_parts}
use Rattle.indexmap.specs.IndexSet.{insert_key}
use Rattle.star_model.specs.Vectors.{same_numbers}
use Rattle.query_graph.specs.Queries.{Item, quantifier_name}
use Rattle.star_model.proofs.Laws.{same_are}

pub or-false : (a b : Bool) → (a || (b || false)) ≡ (a || b)
or-false true b = refl
or-false false true = refl
or-false false false = refl

or-within : (a b : Bool) → (b ≡ true → a ≡ true) → a ≡ (a || b)
or-within true b within = refl
or-within false true within = within refl
or-within false false within = refl

-- a test that passes the new key as it passes those that are equal to it
pub list_any-insert_key : {K : Type 0} (eq : K → K → Bool) (test : K → Bool) (keys : List K) (k : K)
    → (test k ≡ true → list_any (eq k) keys ≡ list_any test keys) → list_any test (insert_key eq keys k) ≡ (list_any test keys || test k)
list_any-insert_key {K} eq test keys k alike = by (list_any (eq k) keys) refl
  where
    by : (b : Bool) → list_any (eq k) keys ≡ b → list_any test (cond b keys (keys ++ k ∷ [])) ≡ (list_any test keys || test k)
    by true e = or-within (list_any test keys) (test k) (λ passes. sym (alike passes) ∙ e)
    by false e = list_any-append test keys (k ∷ []) ∙ or-false (list_any test keys) (test k)

-- a quantifier's name and its table's
abbrev pub Key : Type 0
Key = Bor (List ℕ) × Bor (List ℕ)

abbrev pub same_key : Key → Key → Bool
same_key x y = same_numbers x.0.now y.0.now && same_numbers x.1.now y.1.now

abbrev pub is_key : List ℕ → List ℕ → Key → Bool
is_key name table k = same_numbers name k.0.now && same_numbers table k.1.now

abbrev pub is_item : List ℕ → List ℕ → Item → Bool
is_item name table i = same_numbers name (quantifier_name i) && same_numbers table i.table

alike : (name table : List ℕ) (keys : List Key) (k : Key) → is_key name table k ≡ true → list_any (same_key k) keys ≡ list_any (is_key name table) keys
alike name table keys k passes =
    let both = and_parts (same_numbers name k.0.now) (same_numbers table k.1.now) passes in
    λ i. list_any (is_key (sym (same_are name k.0.now both.0) i) (sym (same_are table k.1.now both.1) i)) keys

-- one item more
pub one_more : (keys : List Key) (k : Key) (items : List Item) (i : Item) → k.0.now ≡ quantifier_name i → k.1.now ≡ i.table
    → ((name table : List ℕ) → list_any (is_key name table) keys ≡ list_any (is_item name table) items)
    → (name table : List ℕ) → list_any (is_key name table) (insert_key same_key keys k) ≡ list_any (is_item name table) (items ++ i ∷ [])
one_more keys k items i names tables so_far name table =
    list_any-insert_key same_key (is_key name table) keys k (alike name table keys k)
    ∙ (λ j. so_far name table j || (same_numbers name (names j) && same_numbers table (tables j)))
    ∙ sym (or-false (list_any (is_item name table) items) (is_item name table i))
    ∙ sym (list_any-append (is_item name table) items (i ∷ []))
