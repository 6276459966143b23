use Rattle.exchange.proofs.Laws.{no_root}
use Rattle.plan_choice.proofs.Cheapest.{best_for_query, cheapest_is_chosen, plans_fit}
use Rattle.plan_choice.proofs.choosing.choose.Goals as goal

pub glue-requires-clause-fits : goal.glue-requires-clause-fits
glue-requires-clause-fits c = plans_fit _ c.args.rules.now _ _ c.costs.ensures c.requires.plans

pub returns-in-Some : goal.returns-in-Some
returns-in-Some c =
    let best = best_for_query _ c.args.rules.now c.stands.ensures.accepted _ _ _ _ c.costs.ensures c.root_require-require.ensures c.requires.plans c.in_ok-glued.ensures.glued in
    cheapest_is_chosen _ _ _ best c.in-Some.entry.now _ c.in-Some.ensures c.in_ok-of_entry-in-Some.ensures

pub returns : goal.returns
returns c =
    let best = best_for_query _ c.args.rules.now c.stands.ensures.accepted _ _ _ _ c.costs.ensures c.root_require-require.ensures c.requires.plans c.in_ok-glued.ensures.glued in
    no_root _ _ _ best c.in-None.ensures
