-- The statement that words of a statement say.
use Rattle.std.specs.Prelude.{map}
use Rattle.star_model.specs.declared.catalogue.SiteDef.{SiteDef}
use Rattle.star_model.specs.declared.catalogue.ColumnDef.{ColumnDef}
use Rattle.catalogue.specs.Catalogues as statement
use Rattle.catalogue.specs.Catalogues.{CatalogueStatement, TablePart, IndexPart}
use Rattle.catalogue.specs.declared.words.SiteWords.{SiteWords}
use Rattle.catalogue.specs.declared.words.ColumnWords.{ColumnWords}
use Rattle.catalogue.specs.declared.words.TableWords.{TableWords}
use Rattle.catalogue.specs.declared.words.IndexWords.{IndexWords}
use Rattle.catalogue.specs.declared.words.StatementWords.{StatementWords}
use Rattle.catalogue.specs.declared.words.StatementWords.TheVariants.{Site, Table, Index}

abbrev pub site_of : SiteWords → SiteDef
site_of s = record { name = s.name; cpu = s.cpu; net = s.net }

abbrev pub column_of : ColumnWords → ColumnDef
column_of c = record { name = c.name; kind = c.kind; width = c.width; distinct = c.distinct }

abbrev pub table_of : TableWords → TablePart
table_of t =
    record { name = t.name; site = t.site; rows = t.rows; pages = t.pages; file = t.file; columns = map column_of t.columns }

abbrev pub index_of : IndexWords → IndexPart
index_of i = record { name = i.name; table = i.table; columns = i.columns; pages = i.pages }

abbrev pub said : StatementWords → CatalogueStatement
said (Site s) = statement.Site (site_of s)
said (Table t) = statement.Table (table_of t)
said (Index i) = statement.Index (index_of i)
