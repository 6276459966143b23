-- The laws that other crates may cite. Each is the clause of a function of the module `theorems`.
pub use Rattle.glue.proofs.ListedChains.{each_chain_is_listed}
