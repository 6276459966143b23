-- The query of a workload: the chains of rows of which each row refers to one of the table before, in the order of the last table's rows.
use Rattle.std.specs.Prelude.{ℕ, ◌-◌, List, [], ◌∷◌, map, None, Some, codes}
use Rattle.std.specs.List.{range_with_len}
use Rattle.star_model.specs.declared.query.Cmp.TheVariants as cmp
use Rattle.spelling.specs.Layout.{layout}
use Rattle.query_graph.specs.Queries.{ColumnName, Item, Comparison, QueryStatement, OfColumn, query_lexemes}
use Rattle.workload_gen.specs.Names.{table_name, quantifier_name}

abbrev pub id_of : ℕ → ColumnName
id_of number = record { quantifier = quantifier_name number; column = codes "id" }

abbrev pub prev_of : ℕ → ColumnName
prev_of number = record { quantifier = quantifier_name number; column = codes "prev" }

abbrev pub item_of : ℕ → Item
item_of number = record { table = table_name number; name = Some (quantifier_name number) }

-- a row refers to the one of the table before
abbrev pub link_of : ℕ → Comparison
link_of number = record { left = prev_of number; cmp = cmp.Eq; right = OfColumn (id_of (number - 1)) }

abbrev pub query_statement : ℕ → QueryStatement
query_statement size = record {
  select = map id_of (range_with_len 1 size);
  items = map item_of (range_with_len 1 size);
  comparisons = map link_of (range_with_len 2 (size - 1));
  order = id_of size ∷ [];
  site = None;
}

-- in canonical layout
abbrev pub query_text : ℕ → List ℕ
query_text size = layout (query_lexemes (query_statement size) ∷ [])
