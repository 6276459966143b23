use Rattle.stars_core.proofs.Targets.{is_found}
use Rattle.stars_core.proofs.plan.find_plan.Goals as goal

pub returns-in-Some : goal.returns-in-Some
returns-in-Some c = is_found c.args.query.now c.args.rules.now c.in-Some.plan (rw c.in-Some.is at c.in_ok-plan.ensures) c.stands.ensures
