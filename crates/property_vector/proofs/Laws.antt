-- The laws that other crates may cite. Each is the clause of a function of the module `theorems`.
pub use Rattle.property_vector.proofs.Antisymmetry.{equal_by_better}
