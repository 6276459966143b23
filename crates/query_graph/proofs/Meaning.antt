-- A statement whose names are all defined, and whose quantifiers' names differ, means a query.
use Rattle.std.proofs.Common.{◌≡◌, ℕ, Bool, true, ◌&&◌, List, [], ◌∷◌, ◌++◌, map, slice_get, Option, Some, None, is_some, refl, sym, ap, ◌∙◌}
use Rattle.std.specs.List.{list_any, list_all, flat_map}
use Rattle.std.specs.Option.{option_and_then, option_map}
use Rattle.std.proofs.lemmas.Bool.{and_parts, and_from, true_from_ne_false}
use Rattle.std.proofs.lemmas.List.Folds.{list_all-append}
use Rattle.star_model.specs.declared.catalogue.Catalogue.{Catalogue}
use Rattle.star_model.specs.declared.catalogue.TableDef.{TableDef}
use Rattle.star_model.specs.declared.columns.Col.{Col}
use Rattle.star_model.specs.declared.columns.Site as site
use Rattle.star_model.specs.declared.query.Query.{Query}
use Rattle.star_model.specs.declared.query.QuantDef.{QuantDef}
use Rattle.star_model.specs.declared.query.Pred.{Pred}
use Rattle.star_model.specs.declared.query.Operand as model
use Rattle.star_model.specs.declared.query.Operand.TheVariants as operand
use Rattle.star_model.specs.Selectivity.{weighed}
use Rattle.star_model.specs.Vectors.{same_numbers}
use Rattle.star_model.specs.WellFormed.{differ, WellFormedCatalogue}
use Rattle.star_model.specs.Names.{place_of, is_among}
use Rattle.spelling.specs.Names.{all_of}
use Rattle.query_graph.specs.Queries.{ColumnName, Item, Side, OfColumn, OfConstant, Comparison, QueryStatement, quantifier_name, quantifier_of, column_of, columns_of, operand_of, predicate_of, site_of, query_of}
use Rattle.query_graph.specs.Faults.{is_table, is_site, is_column, has_column, column_names, quantifier_names, side_columns, comparison_columns, columns_named, NamesUnknown, DefinesTwice}
use Rattle.query_graph.specs.Faults as faults
use Rattle.query_graph.proofs.Lists.{is_some-place_of, list_all-flat_map}
use Rattle.query_graph.proofs.Resolving.{column_of_is}
use Rattle.query_graph.proofs.Found.{there, then_some, some_same, any_found, get_map, place_at, among_place, all_there, all_parts, all_get}

abbrev pub table_names : Catalogue → List (List ℕ)
table_names c = map (λ t. t.name) c.tables

pub quantifier_parts : (c : Catalogue) (i : Item) (d : QuantDef) → quantifier_of c i ≡ Some d → (place_of i.table (table_names c) ≡ Some d.table) × (d.name ≡ quantifier_name i)
quantifier_parts c i d is =
    let found = then_some (place_of i.table (table_names c)) (λ table. Some (record { name = quantifier_name i; table = table })) d is in
    let same = some_same (record { name = quantifier_name i; table = found.0 }) d found.2 in
    (found.1 ∙ ap (λ (x : QuantDef). Some x.table) same, sym (ap (λ (x : QuantDef). x.name) same))

pub names_of_quantifiers : (c : Catalogue) (items : List Item) (qs : List QuantDef) → all_of (map (quantifier_of c) items) ≡ Some qs → map (λ d. d.name) qs ≡ quantifier_names items
names_of_quantifiers c [] qs is = let same : [] ≡ qs = cc in ap (map (λ (d : QuantDef). d.name)) (sym same)
names_of_quantifiers c (i ∷ items) qs is =
    let parts = all_parts (quantifier_of c) i items qs is in
    ap (map (λ (d : QuantDef). d.name)) parts.4 ∙ (λ j. (quantifier_parts c i parts.0 parts.2).1 j ∷ names_of_quantifiers c items parts.1 parts.3 j)

module _ (c : Catalogue) (formed : WellFormedCatalogue c) (items : List Item) (qs : List QuantDef) (different : differ same_numbers (quantifier_names items) ≡ true)
    (are : all_of (map (quantifier_of c) items) ≡ Some qs) where
  -- a column of some quantifier of its name is a column of the only one
  column_found : (n : ColumnName) → is_column c items n ≡ true → (col : Col) × (column_of c qs n ≡ Some col)
  column_found n known =
      let item = any_found (has_column c n) items known in
      let named = and_parts (same_numbers n.quantifier (quantifier_name item.1)) (list_any (λ t. same_numbers item.1.table t.name && is_among (column_names t) n.column) c.tables) item.3 in
      let table = any_found (λ t. same_numbers item.1.table t.name && is_among (column_names t) n.column) c.tables named.1 in
      let has = and_parts (same_numbers item.1.table table.1.name) (is_among (column_names table.1) n.column) table.3 in
      let own = all_get (quantifier_of c) items qs item.0 item.1 are item.2 in
      let tables = place_at (table_names c) table.1.name item.1.table table.0 formed.tables_differ (get_map (λ (t : TableDef). t.name) c.tables table.0 table.1 table.2) has.0 in
      let same = some_same own.0.table table.0 (sym (quantifier_parts c item.1 own.0 own.1).0 ∙ tables) in
      let quantifier = place_at (quantifier_names items) (quantifier_name item.1) n.quantifier item.0 different (get_map quantifier_name items item.0 item.1 item.2) named.0 in
      let column = among_place n.column (column_names table.1) has.1 in (
        record { quant = record { 0 = item.0 }; column = column.0 },
        column_of_is c qs n item.0 own.0 table.1 column.0 (ap (place_of n.quantifier) (names_of_quantifiers c items qs are) ∙ quantifier) own.2 (ap (slice_get c.tables) same ∙ table.2) column.1,
      )

  column_there : (n : ColumnName) → is_column c items n ≡ true → is_some (column_of c qs n) ≡ true
  column_there n known = ap is_some (column_found n known).1

  side_there : (s : Side) → list_all (is_column c items) (side_columns s) ≡ true → is_some (operand_of c qs s) ≡ true
  side_there (OfColumn n) known =
      ap (λ o. is_some (option_map (λ column. operand.Column column) o)) (column_found n (and_parts (is_column c items n) true known).0).1
  side_there (OfConstant k) known = refl

  predicate_there : (p : Comparison) → list_all (is_column c items) (comparison_columns p) ≡ true → is_some (predicate_of c qs p) ≡ true
  predicate_there p known =
      let parts = and_parts (is_column c items p.left) (list_all (is_column c items) (side_columns p.right)) known in
      let left = column_found p.left parts.0 in
      let right = there (operand_of c qs p.right) (side_there p.right parts.1) in
      both p left.0 right.0 left.1 right.1
    where
      both : (p : Comparison) (left : Col) (right : model.Operand) → column_of c qs p.left ≡ Some left → operand_of c qs p.right ≡ Some right → is_some (predicate_of c qs p) ≡ true
      both p left right first second = rw (first, second) refl

list_all-from : {A : Type 0} (p q : A → Bool) → ((x : A) → p x ≡ true → q x ≡ true) → (xs : List A) → list_all p xs ≡ true → list_all q xs ≡ true
list_all-from p q each [] all = refl
list_all-from p q each (x ∷ xs) all =
    let parts = and_parts (p x) (list_all p xs) all in
    and_from (q x) (list_all q xs) (each x parts.0) (list_all-from p q each xs parts.1)

is_some-then : {A B : Type 0} (f : A → B) (o : Option A) → is_some (option_and_then (λ x. Some (f x)) o) ≡ is_some o
is_some-then f None = refl
is_some-then f (Some x) = refl

item_there : (c : Catalogue) (i : Item) → is_table c i.table ≡ true → is_some (quantifier_of c i) ≡ true
item_there c i known =
    is_some-then (λ table. record { name = quantifier_name i; table = table }) (place_of i.table (table_names c)) ∙ is_some-place_of i.table (table_names c) ∙ known

site_there : (c : Catalogue) (named : Option (List ℕ)) → ((name : List ℕ) → named ≡ Some name → is_site c name ≡ true) → (s : Option site.Site) × (site_of c named ≡ Some s)
site_there c None known = (None, refl)
site_there c (Some name) known =
    let place = among_place name (map (λ s. s.name) c.sites) (known name refl) in
    (Some (record { 0 = place.0 }), ap (λ o. option_and_then (λ n. Some (Some (record { 0 = n }))) o) place.1)

query_is : (c : Catalogue) (q : QueryStatement) (quants : List QuantDef) (select : List Col) (preds : List Pred) (order : List Col) (s : Option site.Site)
    → all_of (map (quantifier_of c) q.items) ≡ Some quants → columns_of c quants q.select ≡ Some select → all_of (map (predicate_of c quants) q.comparisons) ≡ Some preds
    → columns_of c quants q.order ≡ Some order → site_of c q.site ≡ Some s
    → query_of c q ≡ Some (weighed [] (record { catalogue = c; quants = quants; select = select; preds = preds; order = order; site = s }))
unfolding query_of
query_is c q quants select preds order s e1 e2 e3 e4 e5 = rw (e1, e2, e3, e4, e5) refl

pub means_query : (c : Catalogue) (q : QueryStatement) → WellFormedCatalogue c → (NamesUnknown c q → ⊥) → (DefinesTwice q → ⊥) → (query : Query) × (query_of c q ≡ Some query)
means_query c q formed known once =
    let different = true_from_ne_false (differ same_numbers (quantifier_names q.items)) once in
    let tables = true_from_ne_false (list_all (λ i. is_table c i.table) q.items) (λ none. known (faults.table none)) in
    let named = true_from_ne_false (list_all (is_column c q.items) (columns_named q)) (λ none. known (faults.column none)) in
    let select_and_later = and_parts (list_all (is_column c q.items) q.select) (list_all (is_column c q.items) (flat_map comparison_columns q.comparisons ++ q.order))
    (sym (list_all-append (is_column c q.items) q.select (flat_map comparison_columns q.comparisons ++ q.order)) ∙ named) in
    let comparisons_and_order = and_parts (list_all (is_column c q.items) (flat_map comparison_columns q.comparisons)) (list_all (is_column c q.items) q.order)
    (sym (list_all-append (is_column c q.items) (flat_map comparison_columns q.comparisons) q.order) ∙ select_and_later.1) in
    let quants = all_there (quantifier_of c) q.items (list_all-from (λ i. is_table c i.table) (λ i. is_some (quantifier_of c i)) (item_there c) q.items tables) in
    let select = all_there (column_of c quants.0) q.select
    (list_all-from (is_column c q.items) (λ n. is_some (column_of c quants.0 n)) (column_there c formed q.items quants.0 different quants.1) q.select select_and_later.0) in
    let preds = all_there (predicate_of c quants.0) q.comparisons
    (list_all-from (λ p. list_all (is_column c q.items) (comparison_columns p)) (λ p. is_some (predicate_of c quants.0 p)) (predicate_there c formed q.items quants.0 different quants.1) q.comparisons
    (sym (list_all-flat_map (is_column c q.items) comparison_columns q.comparisons) ∙ comparisons_and_order.0)) in
    let order = all_there (column_of c quants.0) q.order
    (list_all-from (is_column c q.items) (λ n. is_some (column_of c quants.0 n)) (column_there c formed q.items quants.0 different quants.1) q.order comparisons_and_order.1) in
    let at = site_there c q.site (λ name is. true_from_ne_false (is_site c name) (λ none. known (faults.site name is none))) in
    (weighed [] (record { catalogue = c; quants = quants.0; select = select.0; preds = preds.0; order = order.0; site = at.0 }), query_is c q quants.0 select.0 preds.0 order.0 at.0 quants.1 select.1 preds.1 order.1 at.1)
