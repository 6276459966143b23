-- The laws that other crates may cite. Each is the clause of a function of the module `theorems`.
pub use Rattle.star_check.proofs.OneFault.{one_fault, accepted_or_refused}
pub use Rattle.star_check.proofs.Outcome.{some_answer}
pub use Rattle.star_check.proofs.AcceptedLaws.{values_are_kinded, no_glue_below, low_heights, bodies_are_shallow, its_own}
pub use Rattle.star_check.proofs.Descending.{bodies_refer_below, stars_refer_below, height_is_named, heights_are_from_one}
pub use Rattle.star_check.proofs.SoundPlaces.{root_is_sound, below_is_sound, goal_leads_to_sound, glue_reads_within, leads_further}
pub use Rattle.star_check.proofs.AccessPlaces.{one_leads_to_no_glue}
pub use Rattle.star_check.proofs.SmallerGoals.{asked_goal_is_smaller, goal_asks_for_goals, asked_goals_are_goals}
