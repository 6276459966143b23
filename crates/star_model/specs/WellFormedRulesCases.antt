-- The nesting of the plans that code makes, case by case.
use Rattle.std.specs.Prelude.{◌≡◌, refl, ℕ, ◌+◌, max, List}
use denote.Hole.Carrier.{hidden}
use Rattle.star_model.specs.declared.rules.Flavour.{Flavour}
use Rattle.star_model.specs.declared.rules.ValueExpr.{ValueExpr}
use Rattle.star_model.specs.declared.rules.PlanExpr.{PlanExpr}
use Rattle.star_model.specs.declared.rules.PlanExpr.TheBlock.{shape-the_row-PlanExpr-0, hidden-the_row-PlanExpr-0}
use Rattle.star_model.specs.declared.rules.PlanExpr.TheVariants as made
use Rattle.star_model.specs.WellFormedRules.{nesting}

pub nesting-Reference : (star : List ℕ) (arguments : List ValueExpr) → nesting (made.Reference star arguments) ≡ 1
unfolding nesting
nesting-Reference star arguments = refl

pub nesting-Glue : (stream preds : ValueExpr) → nesting (made.Glue stream preds) ≡ 1
unfolding nesting
nesting-Glue stream preds = refl

pub nesting-Leaf : (f : Flavour) (arguments : List ValueExpr) → nesting (made.Leaf f arguments) ≡ 1
unfolding nesting
nesting-Leaf f arguments = refl

pub nesting-Unary : (f : Flavour) (arguments : List ValueExpr) (input : PlanExpr) → nesting (made.Unary f arguments input) ≡ 1 + nesting input
unfolding nesting shape-the_row-PlanExpr-0 hidden-the_row-PlanExpr-0 hidden
nesting-Unary f arguments input = refl

pub nesting-Binary : (f : Flavour) (arguments : List ValueExpr) (left right : PlanExpr) → nesting (made.Binary f arguments left right) ≡ 1 + max (nesting left) (nesting right)
unfolding nesting shape-the_row-PlanExpr-0 hidden-the_row-PlanExpr-0 hidden
nesting-Binary f arguments left right = refl

pub ruleset nesting_cases = (nesting-Reference, nesting-Glue, nesting-Leaf, nesting-Unary, nesting-Binary)
