-- The catalogue and the query that the texts of a workload mean.
use Rattle.std.specs.Prelude.{ℕ, ◌+◌, ◌-◌, if◌then◌else◌, List, [], ◌∷◌, ◌++◌, length, map, None}
use Rattle.std.specs.List.{range_with_len}
use Rattle.star_model.specs.declared.catalogue.Catalogue.{Catalogue}
use Rattle.star_model.specs.declared.catalogue.TableDef.{TableDef}
use Rattle.star_model.specs.declared.catalogue.IndexDef.{IndexDef}
use Rattle.star_model.specs.declared.columns.Col.{Col}
use Rattle.star_model.specs.declared.query.Query.{Query}
use Rattle.star_model.specs.declared.query.QuantDef.{QuantDef}
use Rattle.star_model.specs.declared.query.Pred.{Pred}
use Rattle.star_model.specs.declared.query.Cmp.TheVariants as cmp
use Rattle.star_model.specs.declared.query.Operand.TheVariants as operand
use Rattle.star_model.specs.Selectivity.{weighed}
use Rattle.catalogue.specs.Catalogues.{table_from}
use Rattle.workload_gen.specs.declared.tables.DrawnTable.{DrawnTable}
use Rattle.workload_gen.specs.Names.{index_name, quantifier_name}
use Rattle.workload_gen.specs.CatalogueText.{the_site, table_part}

-- ---- the catalogue

-- the table of this number
abbrev pub table_def : ℕ → DrawnTable → TableDef
table_def number table = table_from 0 (table_part number table)

abbrev pub table_defs : ℕ → List DrawnTable → List TableDef
table_defs number [] = []
table_defs number (table ∷ later) = table_def number table ∷ table_defs (number + 1) later

-- the index of the table of this number: on its second column, and then its first
abbrev pub index_def : ℕ → IndexDef
index_def number = record { name = index_name number; table = number - 1; columns = 1 ∷ 0 ∷ []; pages = 1 }

abbrev pub index_defs : ℕ → List DrawnTable → List IndexDef
index_defs number [] = []
index_defs number (table ∷ later) = (if table.is_indexed then index_def number ∷ [] else []) ++ index_defs (number + 1) later

abbrev pub catalogue_tree : List DrawnTable → Catalogue
catalogue_tree tables = record { sites = the_site ∷ []; tables = table_defs 1 tables; indexes = index_defs 1 tables }

-- ---- the query

abbrev pub quantifier_def : ℕ → QuantDef
quantifier_def number = record { name = quantifier_name number; table = number - 1 }

abbrev pub id_column : ℕ → Col
id_column number = record { quant = record { 0 = number - 1 }; column = 0 }

abbrev pub prev_column : ℕ → Col
prev_column number = record { quant = record { 0 = number - 1 }; column = 1 }

abbrev pub link_pred : ℕ → Pred
link_pred number = record { left = prev_column number; cmp = cmp.Eq; right = operand.Column (id_column (number - 1)); num = 1; den = 1 }

-- each predicate with the usual selectivity
abbrev pub query_tree : List DrawnTable → Query
query_tree tables = weighed [] (record {
  catalogue = catalogue_tree tables;
  quants = map quantifier_def (range_with_len 1 (length tables));
  select = map id_column (range_with_len 1 (length tables));
  preds = map link_pred (range_with_len 2 (length tables - 1));
  order = id_column (length tables) ∷ [];
  site = None;
})
