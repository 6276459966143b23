use Rattle.std.proofs.Common.{◌≡◌, List, Some, sym, subst}
use Rattle.star_model.specs.Operators.{flavour_of}
use Rattle.star_model.specs.declared.query.Query.{Query}
use Rattle.star_model.specs.declared.costs.CostEntry.{CostEntry}
use Rattle.star_model.specs.declared.plans.Op.{Op}
use Rattle.dominance_prune.specs.Gathering.{IsFrontier}
use Rattle.dominance_prune.specs.GatheringCases.{IsFrontier-has}
use Rattle.lolepop.specs.PlanTrees.{Fits}
use Rattle.lolepop.specs.Derived.{DerivedPlan, vector_of, is_better_plan, derived_leaf, AllFit}
use Rattle.lolepop.proofs.Laws.{leaf_gives, leaf_fits}
use Rattle.plan_rows.proofs.glued.glued.Goals as goal

leaves_fit : (q : Query) (costs : List CostEntry) (o : Op) (plans : List DerivedPlan) → IsFrontier is_better_plan (λ x. derived_leaf q costs (flavour_of o) o ≡ Some x) plans
    → AllFit q costs plans
leaves_fit q costs o plans frontier e among =
    let made = IsFrontier-has is_better_plan (λ x. derived_leaf q costs (flavour_of o) o ≡ Some x) plans frontier e among in
    let given = (leaf_gives q costs (flavour_of o) o e).0 made in
    subst (λ (z : DerivedPlan). Fits q costs z.tree) (sym given.1) (leaf_fits q costs o (vector_of e) given.0)

pub glue-requires-clause-fits : goal.glue-requires-clause-fits
glue-requires-clause-fits c = leaves_fit _ _ _ _ c.in_ok-plans.ensures
