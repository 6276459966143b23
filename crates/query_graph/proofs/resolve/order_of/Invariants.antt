use Rattle.std.proofs.Common.{◌≡◌, map, take, Some}
use Rattle.spelling.specs.Names.{all_of}
use Rattle.query_graph.specs.Queries.{column_of}
use Rattle.query_graph.specs.Words.{said_column}
use Rattle.query_graph.proofs.resolve.order_of.Given as goal

abbrev pub invariant-loop-column : goal.invariant-loop-column
invariant-loop-column l = all_of (map (column_of l.catalogue l.quantifiers) (map said_column (take l.column-index l.columns))) ≡ Some l.order
