use Rattle.exchange.proofs.Laws.{accepted_pass}
use Rattle.star_search.proofs.Glues.{glue_is_there, fit_there, glue_done}
use Rattle.star_search.proofs.arms.glued_of_goal.Goals as goal

pub glue-requires-clause-fits : goal.glue-requires-clause-fits
glue-requires-clause-fits c = fit_there c.args.search.now c.args.request.now c.requires.open c.in-Some.plans.now c.in-Some.ensures c.costs.result.now c.costs.ensures

pub unreachable-requires : goal.unreachable-requires
unreachable-requires c = glue_is_there c.args.search.now c.args.request.now c.requires.held c.in-None.ensures

pub returns : goal.returns
returns c =
    glue_done c.args.search.now c.args.request.now (accepted_pass c.args.search.now.rules.now c.stands.ensures.accepted) c.requires.open c.in-Some.plans.now c.in-Some.ensures c.costs.result.now c.costs.ensures
    c.glue.result c.glue.ensures.glued
