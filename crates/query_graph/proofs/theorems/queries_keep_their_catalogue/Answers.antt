use Rattle.query_graph.proofs.Laws.{keeps_catalogue}
use Rattle.query_graph.proofs.theorems.queries_keep_their_catalogue.Goals as goal

pub returns : goal.returns
returns c = keeps_catalogue
