-- A set of the names of quantifiers, each with the name of its table, and the columns that are found by it.
use Rattle.std.specs.Prelude.{◌≡◌, ℕ, Bool, true, ◌&&◌, List}
use Rattle.std.specs.Borrow.{Bor}
use Rattle.std.specs.List.{list_any, list_all}
use Rattle.indexmap.specs.IndexSet.{IndexSet, contains_by}
use Rattle.star_model.specs.declared.catalogue.Catalogue.{Catalogue}
use Rattle.star_model.specs.declared.catalogue.TableDef.{TableDef}
use Rattle.star_model.specs.Vectors.{same_numbers}
use Rattle.star_model.specs.Names.{is_among}
use Rattle.query_graph.specs.Queries.{ColumnName, Item, Side, OfColumn, OfConstant, Comparison, QueryStatement, quantifier_name}
use Rattle.query_graph.specs.Faults.{column_names, is_table}
use Rattle.query_graph.specs.NameTests.{is_site_if_any}

module _ {S : Type 0} (set : IndexSet (Bor (List ℕ) × Bor (List ℕ)) S) where
  abbrev pub has_pair : List ℕ → List ℕ → Bool
  has_pair name table = contains_by (λ k. same_numbers name k.0.now && same_numbers table k.1.now) set

  -- the set has what the items say
  abbrev pub HoldsItems : List Item → Type 0
  HoldsItems items =
      (name table : List ℕ) → has_pair name table ≡ list_any (λ i. same_numbers name (quantifier_name i) && same_numbers table i.table) items

  -- the table has the column, and a quantifier of the column's ranges over it
  abbrev pub offers : ColumnName → TableDef → Bool
  offers n t = is_among (column_names t) n.column && has_pair n.quantifier t.name

  module _ (tables : List TableDef) where
    abbrev pub finds_column : ColumnName → Bool
    finds_column n = list_any (offers n) tables

    abbrev pub finds_side : Side → Bool
    finds_side (OfColumn n) = finds_column n
    finds_side (OfConstant k) = true

    abbrev pub finds_comparison : Comparison → Bool
    finds_comparison p = finds_column p.left && finds_side p.right

    -- all columns of the statement
    abbrev pub finds_all : QueryStatement → Bool
    finds_all q = list_all finds_column q.select && list_all finds_comparison q.comparisons && list_all finds_column q.order

-- all names of the statement
abbrev pub finds_names : {S : Type 0} → Catalogue → IndexSet (Bor (List ℕ) × Bor (List ℕ)) S → QueryStatement → Bool
finds_names c set q = list_all (λ i. is_table c i.table) q.items && finds_all set c.tables q && is_site_if_any c q.site
