-- The laws that other crates may cite. Each is the clause of a function of the module `theorems`.
pub use Rattle.plan_choice.proofs.Existence.{root_derivations_exist, none_listed, some_listed}
