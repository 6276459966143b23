-- Where the search for the query's goal ends with nothing.
use Rattle.std.proofs.Common.{◌≡◌, ℕ, List, [], ◌∷◌, length, sym, subst, arith}
use Rattle.star_model.specs.declared.rules.RuleFile.{RuleFile}
use Rattle.star_model.specs.declared.query.Query.{Query as QueryTree}
use Rattle.star_model.specs.declared.plans.Props.{Props}
use Rattle.plan_choice.specs.FrontierLists.{IsFrontierList}
use Rattle.plan_choice.proofs.Laws.{none_listed}
use Rattle.stars_core.specs.declared.status.Ending.{Ending}
use Rattle.stars_core.specs.declared.status.Ending.TheVariants as endings
use Rattle.stars_core.specs.Plan.{no_plan}
use Rattle.stars_core.specs.Frontier.{FrontierText}

pub no_lines_told : (rules : RuleFile) (query : QueryTree) (list : List Props) (ending : Ending) (text : List ℕ) → IsFrontierList query rules list → length list ≡ 0 → ending ≡ endings.NoPlan → text ≡ no_plan
    → FrontierText rules query ending text
no_lines_told rules query [] ending text listed none ends is = subst (λ (f : Ending). FrontierText rules query f text) (sym ends) (none_listed query rules listed, is)
no_lines_told rules query (v ∷ list) ending text listed none ends is = absurd (omega (arith, none))
