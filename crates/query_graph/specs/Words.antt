-- What the words of a query say, as the grammar has it.
use Rattle.std.specs.Prelude.{map}
use Rattle.query_graph.specs.declared.words.ColumnWords.{ColumnWords}
use Rattle.query_graph.specs.declared.words.ItemWords.{ItemWords}
use Rattle.query_graph.specs.declared.words.ConstantWords.{ConstantWords}
use Rattle.query_graph.specs.declared.words.ConstantWords.TheVariants as constant
use Rattle.query_graph.specs.declared.words.SideWords.{SideWords}
use Rattle.query_graph.specs.declared.words.SideWords.TheVariants as side
use Rattle.query_graph.specs.declared.words.ComparisonWords.{ComparisonWords}
use Rattle.query_graph.specs.declared.words.QueryWords.{QueryWords}
use Rattle.query_graph.specs.Queries.{ColumnName, Item, Constant, Whole, Negative, Quoted, Side, OfColumn, OfConstant, Comparison, QueryStatement}

abbrev pub said_column : ColumnWords → ColumnName
said_column c = record { quantifier = c.quantifier; column = c.column }

abbrev pub said_item : ItemWords → Item
said_item i = record { table = i.table; name = i.name }

abbrev pub said_constant : ConstantWords → Constant
said_constant (constant.Whole n) = Whole n
said_constant (constant.Negative n) = Negative n
said_constant (constant.Quoted bytes) = Quoted bytes

abbrev pub said_side : SideWords → Side
said_side (side.Column c) = OfColumn (said_column c)
said_side (side.Constant c) = OfConstant (said_constant c)

abbrev pub said_comparison : ComparisonWords → Comparison
said_comparison p = record { left = said_column p.left; cmp = p.cmp; right = said_side p.right }

abbrev pub said : QueryWords → QueryStatement
said q = record {
  select = map said_column q.select;
  items = map said_item q.items;
  comparisons = map said_comparison q.comparisons;
  order = map said_column q.order;
  site = q.site;
}
