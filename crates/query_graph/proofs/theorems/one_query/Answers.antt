use Rattle.query_graph.proofs.Laws.{one_query, one_query_statement}
use Rattle.query_graph.proofs.theorems.one_query.Goals as goal

pub returns : goal.returns
returns c = record { text = one_query; statement = one_query_statement }
