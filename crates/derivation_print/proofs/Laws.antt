-- The laws that other crates may cite. Each is the clause of a function of the module `theorems`.
pub use Rattle.derivation_print.proofs.RootWriting.{root_can_be_written, plan_text_spells}
