use Rattle.query_graph.proofs.Laws.{accepted_query}
use Rattle.query_graph.proofs.theorems.queries_without_fault_are_accepted.Goals as goal

pub returns : goal.returns
returns c = accepted_query
