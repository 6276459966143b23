-- The laws that other crates may cite. Each is the clause of a function of the module `theorems`.
pub use Rattle.stars_core.proofs.Cases.{three_pass}
pub use Rattle.stars_core.proofs.Says.{says_case}
