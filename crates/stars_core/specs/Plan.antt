-- The text of a plan.
use Rattle.std.specs.Prelude.{◌≡◌, ◌≤◌, ℕ, List, [], ◌∷◌, ◌++◌, codes, Option, None, Some}
use Rattle.std.specs.Fmt.{decimal}
use Rattle.star_model.specs.Derivations.{IsRoot, IsLeast}
use Rattle.star_model.specs.Numbers.{top}
use Rattle.star_model.specs.declared.rules.RuleFile.{RuleFile}
use Rattle.star_model.specs.declared.query.Query.{Query as QueryTree}
use Rattle.star_model.specs.declared.derivations.Deriv.{Deriv}
use Rattle.star_model.specs.declared.plans.Props.{Props}
use Rattle.lolepop.specs.Derived.{DerivedPlan, vector_of}
use Rattle.row_answers.specs.RowsTexts.{IsForQuery}
use Rattle.derivation_reading.specs.Derivations.{SpellsDerivation, canonical}
use Rattle.rule_grammar.specs.Rules.{SpellsRules}
use Rattle.star_model.specs.WellFormedRules.{WellFormedRules}
use Rattle.spelling.specs.Layout.{commented}
use Rattle.stars_core.specs.declared.status.Ending.{Ending}
use Rattle.stars_core.specs.declared.status.Ending.TheVariants as endings

-- the numbers of a plan
abbrev pub numbers : Props → List ℕ
numbers v = codes " cost " ++ decimal v.cost ++ codes " rescan " ++ decimal v.rescan ++ codes " card " ++ decimal v.card

abbrev pub no_plan : List ℕ
no_plan = codes "no plan" ++ 10 ∷ []

-- each of them is at most 10^18
pub record AreSmall (v : Props) : Type 0 where
  pub cost : v.cost ≤ top
  pub rescan : v.rescan ≤ top
  pub card : v.card ≤ top

-- the rules derive no plan for the query
abbrev pub HasNoPlan : RuleFile → QueryTree → Type 0
HasNoPlan rules query = (d : Deriv) (v : Props) → IsRoot query rules d v → ⊥

-- or they derive one
abbrev pub HasPlan : RuleFile → QueryTree → Type 0
HasPlan rules query = (d : Deriv) × (v : Props) × IsRoot query rules d v

-- a plan of least cost, whose numbers are small, and whose rows are the query's; or none
abbrev pub IsFound : RuleFile → QueryTree → Option DerivedPlan → Type 0
IsFound rules query None = HasNoPlan rules query
IsFound rules query (Some e) =
    IsLeast query rules e.deriv (vector_of e) × AreSmall (vector_of e) × IsForQuery query e.tree

-- How planning ends, and the text of each end: behind the comment stands a derivation, which it spells where the rules have a text.
abbrev pub PlanText : RuleFile → QueryTree → Ending → List ℕ → Type 0
PlanText rules query endings.Done text = (d : Deriv) × (v : Props) × IsLeast query rules d v × (text ≡ commented (numbers v) (canonical d))
    × ((r : List ℕ) → SpellsRules r rules → WellFormedRules rules → SpellsDerivation text d)
PlanText rules query endings.NoPlan text = HasNoPlan rules query × (text ≡ no_plan)
