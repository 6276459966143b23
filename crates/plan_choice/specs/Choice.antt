-- Which plan is chosen for a query.
use Rattle.std.specs.Prelude.{◌≤◌, List, Option, Some, None, Contains}
use Rattle.star_model.specs.Derivations.{IsRoot, IsLeast}
use Rattle.star_model.specs.Expected.{ForQuery}
use Rattle.star_model.specs.declared.derivations.Deriv.{Deriv}
use Rattle.star_model.specs.declared.plans.Props.{Props}
use Rattle.star_model.specs.declared.query.Query.{Query}
use Rattle.star_model.specs.declared.rules.RuleFile.{RuleFile}
use Rattle.lolepop.specs.Derived.{DerivedPlan, vector_of}
use Rattle.exchange.specs.Places.{IsDerived}

-- a member of the set, and none costs less
pub record IsCheapest (plans : List DerivedPlan) (e : DerivedPlan) : Type 0 where
  pub member : Contains plans e
  pub least : (other : DerivedPlan) → Contains plans other → (vector_of e).cost ≤ (vector_of other).cost

-- a plan of least cost, with a derivation of it; or none, where the query has no root derivation
abbrev pub IsChosen : Query → RuleFile → Option DerivedPlan → Type 0
IsChosen q rules None = (d : Deriv) (v : Props) → IsRoot q rules d v → ⊥
IsChosen q rules (Some e) = IsLeast q rules e.deriv (vector_of e) × IsDerived q rules ForQuery e
