-- The names of a statement that are found, and those that are unknown.
use Rattle.std.proofs.Common.{◌≡◌, ℕ, Bool, true, false, ◌&&◌, List, ◌++◌, Option, Some, None, if◌then◌else◌, refl, sym, ap, ◌∙◌, ◌⊎◌, inl, inr}
use Rattle.std.proofs.Math.Bool.{and_comm, and_assoc}
use Rattle.std.proofs.lemmas.Bool.{and_cases, and_left, and_right, both_ways}
use Rattle.std.proofs.lemmas.List.Folds.{list_all-append}
use Rattle.std.specs.Borrow.{Bor}
use Rattle.std.specs.List.{list_any, list_all, flat_map}
use Rattle.indexmap.specs.IndexSet.{IndexSet}
use Rattle.star_model.specs.declared.catalogue.Catalogue.{Catalogue}
use Rattle.star_model.specs.declared.catalogue.TableDef.{TableDef}
use Rattle.star_model.specs.Vectors.{same_numbers}
use Rattle.star_model.specs.Names.{is_among}
use Rattle.query_graph.specs.Queries.{ColumnName, Item, Side, OfColumn, OfConstant, Comparison, QueryStatement, quantifier_name}
use Rattle.query_graph.specs.Faults.{is_column, has_column, is_table, column_names, side_columns, comparison_columns, columns_named, DefinesTwice, NamesUnknown, table, column, site}
use Rattle.query_graph.specs.declared.fault.QueryFault.{QueryFault}
use Rattle.query_graph.specs.declared.fault.QueryFault.TheVariants as fault
use Rattle.query_graph.specs.Quantifiers.{HoldsItems, offers, finds_column, finds_side, finds_comparison, finds_all, finds_names}
use Rattle.query_graph.specs.NameTests.{is_site_if_any, are_known, quantifiers_differ, name_fault}
use Rattle.query_graph.proofs.Lists.{same_numbers_comm, list_any-same, any-exchanged, any-and, list_all-flat_map}

rotated : (a b d e : Bool) → d ≡ e → (a && (b && d)) ≡ (b && (e && a))
rotated a b d e same = and_comm a (b && d) ∙ and_assoc b d a ∙ ap (λ x. b && (x && a)) same

module _ {S : Type 0} (c : Catalogue) (set : IndexSet (Bor (List ℕ) × Bor (List ℕ)) S) (items : List Item) (holds : HoldsItems set items) where
  -- what is found by the set is a column of some item
  pub finds_column-is : (n : ColumnName) → finds_column set c.tables n ≡ is_column c items n
  finds_column-is n =
      list_any-same (offers set n) (λ t. list_any (λ i. has t && (named i && same_numbers t.name i.table)) items) offered c.tables
      ∙ any-exchanged (λ t i. has t && (named i && same_numbers t.name i.table)) c.tables items
      ∙ list_any-same (λ i. list_any (λ t. has t && (named i && same_numbers t.name i.table)) c.tables) (has_column c n) own items
    where
      has : TableDef → Bool
      has t = is_among (column_names t) n.column

      named : Item → Bool
      named i = same_numbers n.quantifier (quantifier_name i)

      offered : (t : TableDef) → offers set n t ≡ list_any (λ i. has t && (named i && same_numbers t.name i.table)) items
      offered t = ap (λ b. has t && b) (holds n.quantifier t.name) ∙ sym (any-and (has t) (λ i. named i && same_numbers t.name i.table) items)

      own : (i : Item) → list_any (λ t. has t && (named i && same_numbers t.name i.table)) c.tables ≡ has_column c n i
      own i =
          list_any-same (λ t. has t && (named i && same_numbers t.name i.table)) (λ t. named i && (same_numbers i.table t.name && has t))
          (λ t. rotated (has t) (named i) (same_numbers t.name i.table) (same_numbers i.table t.name) (same_numbers_comm t.name i.table)) c.tables
          ∙ any-and (named i) (λ t. same_numbers i.table t.name && has t) c.tables

  finds_comparison-is : (p : Comparison) → finds_comparison set c.tables p ≡ list_all (is_column c items) (comparison_columns p)
  finds_comparison-is p = λ i. finds_column-is p.left i && side p.right i
    where
      side : (s : Side) → finds_side set c.tables s ≡ list_all (is_column c items) (side_columns s)
      side (OfColumn n) = finds_column-is n ∙ sym (and_comm (is_column c items n) true)
      side (OfConstant k) = refl

pub finds_all-is : {S : Type 0} (c : Catalogue) (set : IndexSet (Bor (List ℕ) × Bor (List ℕ)) S) (q : QueryStatement) → HoldsItems set q.items
    → finds_all set c.tables q ≡ list_all (is_column c q.items) (columns_named q)
finds_all-is c set q holds =
    (λ i. list_all (λ n. finds_column-is c set q.items holds n i) q.select && list_all (λ p. finds_comparison-is c set q.items holds p i) q.comparisons && list_all (λ n. finds_column-is c set q.items holds n i) q.order)
    ∙ and_assoc (list_all test q.select) (list_all (λ p. list_all test (comparison_columns p)) q.comparisons) (list_all test q.order)
    ∙ ap (λ b. list_all test q.select && (b && list_all test q.order)) (sym (list_all-flat_map test comparison_columns q.comparisons))
    ∙ ap (λ b. list_all test q.select && b) (sym (list_all-append test (flat_map comparison_columns q.comparisons) q.order))
    ∙ sym (list_all-append test q.select (flat_map comparison_columns q.comparisons ++ q.order))
  where
    test : ColumnName → Bool
    test n = is_column c q.items n

-- from the three tests
from_tests : (c : Catalogue) (q : QueryStatement) → are_known c q ≡ false → NamesUnknown c q
from_tests c q failed = first (and_cases tables_columns (is_site_if_any c q.site) failed)
  where
    tables_columns : Bool
    tables_columns = list_all (λ i. is_table c i.table) q.items && list_all (is_column c q.items) (columns_named q)

    sites : (name : Option (List ℕ)) → q.site ≡ name → is_site_if_any c name ≡ false → NamesUnknown c q
    sites None e none = absurd (both_ways true none refl)
    sites (Some name) e none = site name e none

    second : (list_all (λ i. is_table c i.table) q.items ≡ false) ⊎ (list_all (is_column c q.items) (columns_named q) ≡ false) → NamesUnknown c q
    second (inl tables) = table tables
    second (inr columns) = column columns

    first : (tables_columns ≡ false) ⊎ (is_site_if_any c q.site ≡ false) → NamesUnknown c q
    first (inl one) = second (and_cases (list_all (λ i. is_table c i.table) q.items) (list_all (is_column c q.items) (columns_named q)) one)
    first (inr none) = sites q.site refl none

to_tests : (c : Catalogue) (q : QueryStatement) → NamesUnknown c q → are_known c q ≡ false
to_tests c q (table none) =
    and_left (list_all (λ i. is_table c i.table) q.items && list_all (is_column c q.items) (columns_named q)) (is_site_if_any c q.site)
    (and_left (list_all (λ i. is_table c i.table) q.items) (list_all (is_column c q.items) (columns_named q)) none)
to_tests c q (column none) =
    and_left (list_all (λ i. is_table c i.table) q.items && list_all (is_column c q.items) (columns_named q)) (is_site_if_any c q.site)
    (and_right (list_all (λ i. is_table c i.table) q.items) (list_all (is_column c q.items) (columns_named q)) none)
to_tests c q (site name is none) =
    and_right (list_all (λ i. is_table c i.table) q.items && list_all (is_column c q.items) (columns_named q)) (is_site_if_any c q.site) (ap (is_site_if_any c) is ∙ none)

pub finds_names-is : {S : Type 0} (c : Catalogue) (set : IndexSet (Bor (List ℕ) × Bor (List ℕ)) S) (q : QueryStatement) → HoldsItems set q.items → finds_names c set q ≡ are_known c q
finds_names-is c set q holds = ap (λ b. list_all (λ i. is_table c i.table) q.items && b && is_site_if_any c q.site) (finds_all-is c set q holds)

pub unknown : (c : Catalogue) (q : QueryStatement) → are_known c q ≡ false → NamesUnknown c q
unknown c q failed = from_tests c q failed

pub known : (c : Catalogue) (q : QueryStatement) → are_known c q ≡ true → NamesUnknown c q → ⊥
known c q passed names = both_ways (are_known c q) (to_tests c q names) passed

-- ---- the first fault of the names

-- what a search for it answers
abbrev pub IsNameFault : Catalogue → QueryStatement → Option QueryFault → Type 0
IsNameFault c q None = (NamesUnknown c q → ⊥) × (DefinesTwice q → ⊥)
IsNameFault c q (Some (fault.Unknown k)) = (k ≡ 1) × NamesUnknown c q
IsNameFault c q (Some (fault.Twice k)) = (k ≡ 1) × (NamesUnknown c q → ⊥) × DefinesTwice q
IsNameFault c q (Some _) = ⊥

twice_or_none : (c : Catalogue) (q : QueryStatement) (b : Bool) → quantifiers_differ q ≡ b → (NamesUnknown c q → ⊥) → IsNameFault c q (if b then None else Some (fault.Twice 1))
twice_or_none c q true different is_known = (is_known, λ twice. both_ways (quantifiers_differ q) twice different)
twice_or_none c q false twice is_known = (refl, is_known, twice)

pub name_fault_is : (c : Catalogue) (q : QueryStatement) → IsNameFault c q (name_fault c q)
name_fault_is c q = by (are_known c q) refl
  where
    by : (b : Bool) → are_known c q ≡ b → IsNameFault c q (if b then (if quantifiers_differ q then None else Some (fault.Twice 1)) else Some (fault.Unknown 1))
    by true passed = twice_or_none c q (quantifiers_differ q) refl (known c q passed)
    by false failed = (refl, unknown c q failed)
