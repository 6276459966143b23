use Rattle.star_expand.proofs.Laws.{own_goal}
use Rattle.call_rows.proofs.asked.told_closed.Goals as goal

pub closed-is_closed-requires-clause-goal : goal.closed-is_closed-requires-clause-goal
closed-is_closed-requires-clause-goal c = own_goal _ c.args.rules.now _ c.requires c.stands.ensures.accepted c.own_goal-own.ensures

pub closed-is_closed-requires-2-clause-goal : goal.closed-is_closed-requires-2-clause-goal
closed-is_closed-requires-2-clause-goal c = own_goal _ c.args.rules.now _ c.requires c.stands.ensures.accepted c.own_goal-own.ensures

pub closed_without-requires-clause-goal : goal.closed_without-requires-clause-goal
closed_without-requires-clause-goal c = own_goal _ c.args.rules.now _ c.requires c.stands.ensures.accepted c.own_goal-own.ensures
