-- The laws that other crates may cite. Each is the clause of a function of the module `theorems`.
pub use Rattle.workload_runs.proofs.Accepting.{workload_says}
pub use Rattle.workload_runs.proofs.TextLengths.{short_rules, short_catalogue, short_query}
pub use Rattle.workload_runs.proofs.HeldRows.{rows_held}
pub use Rattle.workload_runs.proofs.OneRun.{one_run}
