-- The laws that other crates may cite. Each is the clause of a function of the module `theorems`.
pub use Rattle.star_expand.proofs.AskedLaws.{asked_from_query, closed_holds}
pub use Rattle.star_expand.proofs.EmptyMemos.{frontiers_none, closed_none, own_goal, own_held, own_set}
