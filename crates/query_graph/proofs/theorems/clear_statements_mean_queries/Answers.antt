use Rattle.query_graph.proofs.Laws.{means_query, formed_query}
use Rattle.query_graph.proofs.theorems.clear_statements_mean_queries.Goals as goal

pub returns : goal.returns
returns c = record { means = means_query; formed = formed_query }
