use Rattle.std.proofs.Common.{◌≡◌, ◌∙◌, refl, sym, subst, Some, None, Option, List, IsSome}
use Rattle.star_model.specs.Expected.{ForGoal, goal_of}
use Rattle.star_model.specs.Meaning.{meaning, as_stream, as_preds}
use Rattle.lolepop.specs.Derived.{DerivedPlan}
use Rattle.asked_goals.proofs.Parts.{glue_missing, glue_held}
use Rattle.asked_goals.proofs.glues.missing_at_glue.Goals as goal

pub returns-in-Some : goal.returns-in-Some
returns-in-Some c =
    let s = c.args.search.now in
    let tables = c.tables_of-tables.ensures s.query.now in
    let is : goal_of s.query.now (as_stream (meaning s.query.now c.args.env.now c.args.stream.now)).tables (as_preds (meaning s.query.now c.args.env.now c.args.applied.now)) ≡ ForGoal c.glued_goal-goal.result.tables c.glued_goal-goal.result.pushed =
    (λ i. goal_of s.query.now (sym tables i) (sym c.preds.ensures i)) ∙ c.glued_goal-goal.ensures in
    glue_held s.query.now s.rules.now s.memo.now c.args.stream.now c.args.applied.now c.args.env.now c.glued_goal-goal.result is
    (subst (λ (o : Option (List DerivedPlan)). IsSome o) c.in-Some.ensures refl)

pub returns-in-None : goal.returns-in-None
returns-in-None c =
    let s = c.args.search.now in
    let tables = c.tables_of-tables.ensures s.query.now in
    let is : goal_of s.query.now (as_stream (meaning s.query.now c.args.env.now c.args.stream.now)).tables (as_preds (meaning s.query.now c.args.env.now c.args.applied.now)) ≡ ForGoal c.glued_goal-goal.result.tables c.glued_goal-goal.result.pushed =
    (λ i. goal_of s.query.now (sym tables i) (sym c.preds.ensures i)) ∙ c.glued_goal-goal.ensures in
    glue_missing s.query.now s.rules.now s.memo.now c.args.stream.now c.args.applied.now c.args.env.now c.glued_goal-goal.result is (sym c.in-None.ensures)
