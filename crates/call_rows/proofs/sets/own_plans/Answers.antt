use Rattle.star_expand.proofs.Laws.{own_held, own_set}
use Rattle.call_rows.proofs.sets.own_plans.Goals as goal

pub unreachable-requires : goal.unreachable-requires
unreachable-requires c = own_held _ c.args.rules.now _ _ c.own_goal.ensures c.in_ok-memo.ensures.goals c.in-None.ensures.set

pub returns : goal.returns
returns c = own_set _ _ _ _ c.in-Some.plans c.own_goal.ensures c.in_ok-memo.ensures.frontiers c.in-Some.ensures.set
