-- The laws that other crates may cite. Each is the clause of a function of the module `theorems`.
pub use Rattle.asked_goals.proofs.GoalLaws.{one_asks_nothing, split_asks, asks_split, holds_of_one, holds_of_splits}
