use Rattle.lolepop.specs.Derived.{vector_of}
use Rattle.stars_core.proofs.PlanTexts.{is_planned}
use Rattle.stars_core.proofs.plan.plan_query.Goals as goal

pub returns : goal.returns
returns c =
    let chosen = rw c.in-Some.is at c.in_ok-plan.ensures in
    is_planned c.args.query.now c.args.rules.now c.in-Some.plan.deriv (vector_of c.in-Some.plan) c.in_ok-text.text.items c.requires chosen.0 chosen.1 c.in_ok-text.ensures
