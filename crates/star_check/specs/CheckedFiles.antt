-- What a checked rule file keeps.
use Rattle.std.specs.Prelude.{◌≡◌, List}
use Rattle.star_model.specs.Costs.{costs_of}
use Rattle.star_model.specs.Selectivity.{selects_of}
use Rattle.star_model.specs.Accepted.{IsAccepted}
use Rattle.star_model.specs.declared.costs.CostEntry.{CostEntry}
use Rattle.star_model.specs.declared.selects.SelectEntry.{SelectEntry}
use Rattle.star_model.specs.declared.rules.RuleFile.{RuleFile}
use Rattle.star_model.specs.WellFormedRules.{WellFormedRules}

pub record IsChecked (rules : RuleFile) (costs : List CostEntry) (selects : List SelectEntry) : Type 0 where
  pub formed : WellFormedRules rules
  pub accepted : IsAccepted rules
  pub formulas : costs ≡ costs_of rules
  pub selectivities : selects ≡ selects_of rules
