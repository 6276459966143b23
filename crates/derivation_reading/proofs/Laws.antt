-- The laws that other crates may cite. Each is the clause of a function of the module `theorems`.
pub use Rattle.derivation_reading.proofs.FaultLaws.{one_fault}
pub use Rattle.derivation_reading.proofs.Verdicts.{verdict}
pub use Rattle.derivation_reading.proofs.ReadBack.{one_accepted, accepted_spells, few_nodes, read_as, printed_read, plan_read}
pub use Rattle.derivation_reading.proofs.DerivationLaws.{one_derivation}
pub use Rattle.derivation_reading.proofs.DerivationWriting.{written_derivation, derivation_again}
pub use Rattle.derivation_reading.proofs.DerivationWriting.{commented_derivation}
