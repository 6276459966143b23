use Rattle.star_model.specs.Expected.{Expression}
use Rattle.star_model.specs.declared.rules.PlanExpr.TheVariants as made
use Rattle.exchange.specs.Places.{IsBestOf}
use Rattle.search_places.specs.Shared.{IsGlued}
use Rattle.search_places.proofs.Laws.{glued_there, glued_put}
use Rattle.star_search.proofs.Glues.{glue_is_held, glued_here}
use Rattle.star_search.proofs.Sharing.{copied_so, lent_so}
use Rattle.star_search.proofs.arms.glued_plans.Goals as goal

pub glued_of_goal-requires-clause-held : goal.glued_of_goal-requires-clause-held
glued_of_goal-requires-clause-held c =
    glue_is_held c.args.search.now c.args.stream.now c.args.preds.now c.args.env.now c.stream-required.result c.preds-applied.result c.glued_goal.result c.stream-required.ensures c.preds-applied.ensures
    c.glued_goal.ensures c.requires.open c.requires.leads

pub returns-in-Some-clause-best : goal.returns-in-Some-clause-best
returns-in-Some-clause-best c =
    let s = c.args.search.now in
    copied_so c.in-Some.plans.now (IsBestOf s.query.now s.rules.now (Expression (made.Glue c.args.stream.now c.args.preds.now) c.args.env.now)) c.clone.result _
    (glued_here s c.args.stream.now c.args.preds.now c.args.env.now c.stream-required.result c.preds-applied.result c.glued_goal.result c.stream-required.ensures c.preds-applied.ensures c.glued_goal.ensures
    c.in-Some.plans.now (glued_there s.query.now s.rules.now c.args.tables.now.glued _ c.in-Some.plans.now c.requires.shared.glued c.in-Some.ensures)) c.clone.ensures.cases

pub returns-clause-shared : goal.returns-clause-shared
returns-clause-shared c =
    let s = c.args.search.now in
    let P = IsGlued s.query.now s.rules.now (record { goal = c.glued_goal.result; require = c.stream-required.result.require }) in
    let glued = lent_so c.in_ok-glued_of_goal.field-0 P c.in_ok-plans.plans c.in_ok-plans.ensures c.in_ok-glued_of_goal.ensures in
    let copied = lent_so c.in_ok-plans.plans P c.in_ok-clone.field-0 c.in_ok-clone.ensures.cases glued in
    record {
      references = c.requires.shared.references;
      glued = glued_put s.query.now s.rules.now c.args.tables.now.glued c.put.new.self _ c.in_ok-clone.field-0 c.requires.shared.glued copied c.in_ok-put.ensures.put;
    }
