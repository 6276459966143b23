-- The laws that other crates may cite. Each is the clause of a function of the module `theorems`.
pub use Rattle.shared_sets.specs.EqualityCases.{value_decides}
pub use Rattle.shared_sets.specs.RequestCases.{request_decides}
pub use Rattle.shared_sets.proofs.TableLaws.{call_decides, kept_for-push_cases, glued_for-push_cases}
