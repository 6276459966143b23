-- The catalogue of a workload: one site, and the tables, each with its index behind it where it has one.
use Rattle.std.specs.Prelude.{ℕ, ◌+◌, if◌then◌else◌, List, [], ◌∷◌, ◌++◌, map, codes}
use Rattle.star_model.specs.declared.catalogue.SiteDef.{SiteDef}
use Rattle.star_model.specs.declared.catalogue.ColumnDef.{ColumnDef}
use Rattle.star_model.specs.declared.catalogue.ColType.TheVariants as type
use Rattle.spelling.specs.Layout.{layout}
use Rattle.catalogue.specs.Catalogues.{CatalogueStatement, Site, Table, Index, TablePart, IndexPart, catalogue_lexemes}
use Rattle.workload_gen.specs.declared.tables.DrawnTable.{DrawnTable}
use Rattle.workload_gen.specs.Names.{table_name, index_name, file_name}

abbrev pub the_site : SiteDef
the_site = record { name = codes "hq"; cpu = 1; net = 1 }

abbrev pub site_statement : CatalogueStatement
site_statement = Site the_site

abbrev pub integer_column : List ℕ → ℕ → ColumnDef
integer_column name distinct' = record { name = name; kind = type.Int; width = 8; distinct = distinct' }

abbrev pub columns_of : DrawnTable → List ColumnDef
columns_of table = integer_column (codes "id") table.rows ∷ integer_column (codes "prev") table.rows_before ∷ []

abbrev pub table_part : ℕ → DrawnTable → TablePart
table_part number table = record {
  name = table_name number;
  site = codes "hq";
  rows = table.rows;
  pages = table.pages;
  file = file_name number;
  columns = columns_of table;
}

abbrev pub index_part : ℕ → IndexPart
index_part number = record { name = index_name number; table = table_name number; columns = codes "prev" ∷ codes "id" ∷ []; pages = 1 }

-- the statements of the table of this number
abbrev pub table_statements : ℕ → DrawnTable → List CatalogueStatement
table_statements number table = Table (table_part number table) ∷ (if table.is_indexed then Index (index_part number) ∷ [] else [])

-- those of tables from a number on
abbrev pub statements_from : ℕ → List DrawnTable → List CatalogueStatement
statements_from number [] = []
statements_from number (table ∷ later) = table_statements number table ++ statements_from (number + 1) later

abbrev pub catalogue_statements : List DrawnTable → List CatalogueStatement
catalogue_statements tables = site_statement ∷ statements_from 1 tables

-- in canonical layout
abbrev pub catalogue_text : List DrawnTable → List ℕ
catalogue_text tables = layout (map catalogue_lexemes (catalogue_statements tables))
