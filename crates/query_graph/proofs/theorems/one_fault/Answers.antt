use Rattle.query_graph.proofs.Laws.{one_fault}
use Rattle.query_graph.proofs.theorems.one_fault.Goals as goal

pub returns : goal.returns
returns c = one_fault
