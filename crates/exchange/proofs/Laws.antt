-- The laws that other crates may cite. Each is the clause of a function of the module `theorems`.
pub use Rattle.exchange.proofs.Derived.{has_vector, has_card, same_plan}
pub use Rattle.exchange.proofs.OperatorWays.{leaf_ways, unary_ways, binary_ways}
pub use Rattle.exchange.proofs.OperatorExchange.{best_above, best_derived, best_fit, nothing_is_best, binary_nothing, leaf_exchange, unary_exchange, binary_exchange}
pub use Rattle.exchange.proofs.GlueWays.{chained_vector, chained_some, glue_ways}
pub use Rattle.exchange.proofs.GlueExchange.{glue_exchange}
pub use Rattle.exchange.proofs.CallWays.{call_ways, reference_ways, goal_ways}
pub use Rattle.exchange.proofs.CallExchange.{bound_step, ranges_none, ranges_more, alternative_ways, body_unmet, body_exchange, ranges_exchange, call_exchange, reference_exchange}
pub use Rattle.exchange.proofs.Splits.{split_listed}
pub use Rattle.exchange.proofs.GoalExchange.{split_exchange, one_exchange, several_exchange}
pub use Rattle.exchange.proofs.Frontiers.{plan_of_vector, has_frontier, vectors_once, root_vector, cheapest_is_least, no_root}
pub use Rattle.exchange.proofs.Asking.{asks_parts, asks_goal}
pub use Rattle.exchange.proofs.AcceptedCosts.{accepted_pass}
