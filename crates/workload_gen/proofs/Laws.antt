-- The laws that other crates may cite. Each is the clause of a function of the module `theorems`.
pub use Rattle.workload_gen.proofs.LinkLaws.{tables_linked, tables_count}
pub use Rattle.workload_gen.proofs.StatementLaws.{catalogue_says, query_says}
pub use Rattle.workload_gen.proofs.AcceptedLaws.{accepts_catalogue, accepts_query}
