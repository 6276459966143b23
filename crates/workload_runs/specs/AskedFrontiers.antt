-- The goals that a query asks for, and the vectors on their frontiers.
use Rattle.star_model.specs.AskedGoals.{AskedGoal}
use Rattle.star_model.specs.Derivations.{OnFrontier}
use Rattle.star_model.specs.declared.plans.Goal.{Goal}
use Rattle.star_model.specs.declared.plans.Props.{Props}
use Rattle.star_model.specs.declared.query.Query.{Query}
use Rattle.star_model.specs.declared.rules.RuleFile.{RuleFile}

module _ (q : Query) (rules : RuleFile) where
  abbrev pub IsAsked : Goal → Type 0
  IsAsked g = AskedGoal q rules g.tables g.pushed

  -- a goal that is asked for, with a vector on its frontier
  abbrev pub IsKept : Goal × Props → Type 0
  IsKept kept = IsAsked kept.0 × OnFrontier q rules kept.0.tables kept.0.pushed kept.1
