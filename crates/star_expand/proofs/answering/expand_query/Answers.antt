use Rattle.star_expand.proofs.EmptyMemos.{frontiers_none, closed_none, own_goal}
use Rattle.star_expand.proofs.AskedLaws.{query_goals_held}
use Rattle.star_expand.proofs.answering.expand_query.Goals as goal

pub expand-requires-clause-goal : goal.expand-requires-clause-goal
expand-requires-clause-goal c = own_goal _ c.args.rules.now _ c.requires c.stands.ensures.accepted c.goal_of_query.ensures

pub expand-requires-clause-frontiers : goal.expand-requires-clause-frontiers
expand-requires-clause-frontiers c = frontiers_none _ _ _ c.new-memo.ensures

pub expand-requires-clause-closed : goal.expand-requires-clause-closed
expand-requires-clause-closed c = closed_none _ _ _ c.new-memo.ensures

pub returns-clause-goals : goal.returns-clause-goals
returns-clause-goals c =
    query_goals_held _ _ _ _ _ c.new-memo.ensures c.goal_of_query.ensures c.in_ok-expand.ensures.closed c.in_ok-expand.ensures.grows c.in_ok-expand.ensures.held
