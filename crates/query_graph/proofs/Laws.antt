-- The laws that other crates may cite. Each is the clause of a function of the module `theorems`.
pub use Rattle.query_graph.proofs.FaultLaws.{one_fault, accepted_query}
pub use Rattle.query_graph.proofs.Verdicts.{verdict}
pub use Rattle.query_graph.proofs.Clear.{means_query, formed_query, good_query}
pub use Rattle.query_graph.proofs.QueryLaws.{one_query_statement, one_query, keeps_catalogue, usual_selectivities}
pub use Rattle.query_graph.proofs.SmallestText.{one_column}
