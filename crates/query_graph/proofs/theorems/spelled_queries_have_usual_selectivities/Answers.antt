use Rattle.query_graph.proofs.Laws.{usual_selectivities}
use Rattle.query_graph.proofs.theorems.spelled_queries_have_usual_selectivities.Goals as goal

pub returns : goal.returns
returns c = usual_selectivities
