use Rattle.star_check.proofs.Laws.{asked_goal_is_smaller, goal_asks_for_goals, one_leads_to_no_glue, asked_goals_are_goals}
use Rattle.star_check.proofs.theorems.goals_ask_for_smaller_goals.Goals as goal

pub returns : goal.returns
returns c = record { smaller = asked_goal_is_smaller; goals = goal_asks_for_goals; one = one_leads_to_no_glue; asked = asked_goals_are_goals }
