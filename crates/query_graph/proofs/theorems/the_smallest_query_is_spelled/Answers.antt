use Rattle.query_graph.proofs.Laws.{one_column}
use Rattle.query_graph.proofs.theorems.the_smallest_query_is_spelled.Goals as goal

pub returns : goal.returns
returns c = one_column
