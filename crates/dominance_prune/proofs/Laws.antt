-- The laws that other crates may cite. Each is the clause of a function of the module `theorems`.
pub use Rattle.dominance_prune.proofs.RunLaws.{run_stands}
pub use Rattle.dominance_prune.specs.GatheringCases.{above_same}
