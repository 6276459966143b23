use Rattle.star_expand.proofs.EmptyMemos.{own_set, own_held}
use Rattle.star_expand.proofs.answering.plans_of_query.Goals as goal

pub returns : goal.returns
returns c = own_set _ _ _ _ _ c.goal_of_query.ensures c.in_ok-memo.ensures.frontiers c.in-Some.ensures.set

pub unreachable-requires : goal.unreachable-requires
unreachable-requires c = own_held _ c.args.rules.now _ _ c.goal_of_query.ensures c.in_ok-memo.ensures.goals c.in-None.ensures.set
