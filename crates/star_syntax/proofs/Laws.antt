-- The laws that other crates may cite. Each is the clause of a function of the module `theorems`.
pub use Rattle.star_syntax.proofs.FaultLaws.{one_fault, same_statements, no_fault}
pub use Rattle.star_syntax.proofs.Verdicts.{verdict}
pub use Rattle.star_syntax.proofs.WellFormedLaws.{rules_formed, rules_fit}
