-- The laws that other crates may cite. Each is the clause of a function of the module `theorems`.
pub use Rattle.query_facts.proofs.GatheringLaws.{gathered_none, gathered_more, gathered_same, gathered_all}
