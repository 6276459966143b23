use Rattle.query_graph.proofs.Laws.{verdict}
use Rattle.query_graph.proofs.theorems.some_verdict.Goals as goal

pub returns : goal.returns
returns c = verdict
