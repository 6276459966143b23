-- What is claimed.
use Rattle.std.specs.Prelude.{◌≡◌, ◌⊎◌, ℕ}
use Rattle.star_model.specs.Derivations.{IsLeast}
use Rattle.star_model.specs.declared.derivations.Deriv.{Deriv}
use Rattle.star_model.specs.declared.plans.Props.{Props}
use Rattle.star_model.specs.declared.query.Query.{Query}
use Rattle.star_model.specs.declared.rules.RuleFile.{RuleFile}
use Rattle.worked_choices.specs.Storing.{read_alone, and_stored, stored_again}

-- a plan of the least cost, which is this
abbrev pub HasLeastCost : Query → RuleFile → Deriv → ℕ → Type 0
HasLeastCost query rules tree cost = (v : Props) × IsLeast query rules tree v × (v.cost ≡ cost)

abbrev pub IsOneOf : Props → Type 0
IsOneOf v = (v ≡ read_alone) ⊎ (v ≡ and_stored) ⊎ (v ≡ stored_again)
