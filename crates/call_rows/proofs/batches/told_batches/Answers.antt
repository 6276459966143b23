use Rattle.std.proofs.Common.{◌≡◌, ◌∙◌, true, ap, sym, subst}
use Rattle.star_model.specs.Operators.{none_reaches_outside}
use Rattle.lolepop.specs.PlanTrees.{PlanTree, top_vector}
use Rattle.listed_rows.specs.Executable.{Executable}
use Rattle.table_taking.proofs.Laws.{tables_hold}
use Rattle.call_rows.proofs.Chosen.{executable, closed}
use Rattle.call_rows.proofs.batches.told_batches.Goals as goal

pub told_rows-requires-clause-tables : goal.told_rows-requires-clause-tables
told_rows-requires-clause-tables c =
    λ n here d at. c.in-Ok.ensures.taken.1 d.table (tables_hold c.args.query.now n d at)

pub told_rows-requires-clause-closed : goal.told_rows-requires-clause-closed
told_rows-requires-clause-closed c =
    let q = c.args.query.now in
    let chosen = rw c.in-Some.is at c.in_ok-plan.ensures in
    let is : c.deref.result.now ≡ c.in-Some.plan.tree =
    c.deref.ensures ∙ ap (λ e. e.tree) c.plan.view_is in
    let IsClosed : PlanTree → Type 0 =
    λ tree. none_reaches_outside q (top_vector tree).preds (top_vector tree).tables ≡ true in
    subst IsClosed (sym is) (closed q c.args.rules.now c.in-Some.plan c.requires chosen)

pub told_rows-requires-clause-node : goal.told_rows-requires-clause-node
told_rows-requires-clause-node c =
    let q = c.args.query.now in
    let chosen = rw c.in-Some.is at c.in_ok-plan.ensures in
    let is : c.deref.result.now ≡ c.in-Some.plan.tree =
    c.deref.ensures ∙ ap (λ e. e.tree) c.plan.view_is in
    subst (Executable q) (sym is) (executable q c.args.rules.now c.in-Some.plan chosen)
