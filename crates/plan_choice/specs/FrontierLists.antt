-- A query's frontier as a list.
use Rattle.std.specs.Prelude.{◌≡◌, true, List, Contains, Any, AllPairs, ◌↔◌}
use Rattle.std.specs.declared.cmp.Ordering.TheVariants.{Less}
use Rattle.star_model.specs.Derivations.{IsOfGoal, OnFrontier}
use Rattle.star_model.specs.Predicates.{all_quants}
use Rattle.star_model.specs.Vectors.{is_better}
use Rattle.star_model.specs.declared.plans.Props.{Props}
use Rattle.star_model.specs.declared.query.Query.{Query}
use Rattle.star_model.specs.declared.rules.RuleFile.{RuleFile}
use Rattle.plan_choice.specs.LineOrder.{line_cmp}

-- the vectors on the frontier of the goal of all quantifiers and no predicates, one of them better than or equal to each vector of
-- the goal; they rise by the order of the lines, so each is there once
pub record IsFrontierList (q : Query) (rules : RuleFile) (list : List Props) : Type 0 where
  pub vectors : (v : Props) → Contains list v ↔ OnFrontier q rules (all_quants q) 0 v
  pub above : (v : Props) → IsOfGoal q rules (all_quants q) 0 v → Any (λ w. is_better w v ≡ true) list
  pub rising : AllPairs (λ v w. line_cmp v w ≡ Less) list
