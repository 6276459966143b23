use Rattle.query_graph.proofs.Laws.{good_query}
use Rattle.query_graph.proofs.theorems.well_formed_queries_have_no_fault.Goals as goal

pub returns : goal.returns
returns c = good_query
