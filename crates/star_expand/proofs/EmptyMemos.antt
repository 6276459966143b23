-- A query is expanded from its own goal over the empty memo, and its set is taken out, which is held.
use Rattle.std.proofs.Common.{◌≡◌, List, [], Some, None, sym, ap, subst, ◌∙◌}
use Rattle.std.specs.Prelude.{is_some}
use Rattle.std.proofs.lemmas.Bool.{false≢true}
use Rattle.star_model.specs.Expected.{ForGoal, query_goal}
use Rattle.star_model.specs.Goals.{IsGoal}
use Rattle.star_model.specs.Predicates.{all_quants}
use Rattle.star_model.specs.Accepted.{IsAccepted}
use Rattle.star_model.specs.AskedGoals.{AskedGoal}
use Rattle.star_model.specs.WellFormed.{WellFormedQuery}
use Rattle.star_model.specs.declared.plans.Goal.{Goal}
use Rattle.star_model.specs.declared.query.Query.{Query}
use Rattle.star_model.specs.declared.rules.RuleFile.{RuleFile}
use Rattle.lolepop.specs.Derived.{DerivedPlan}
use Rattle.table_set_memo.specs.Memos.{GoalSet, plans_at, IsHeld}
use Rattle.exchange.specs.Places.{IsBestOf}
use Rattle.search_places.specs.Memos.{HoldsFrontiers, IsClosed}
use Rattle.star_expand.specs.Expanding.{HoldsQueryGoals}
use Rattle.star_check.proofs.Laws.{asked_goals_are_goals}

module _ (q : Query) (rules : RuleFile) where
  pub frontiers_none : (memo : List GoalSet) → memo ≡ [] → HoldsFrontiers q rules memo
  unfolding HoldsFrontiers
  frontiers_none memo empty g plans at = let none : None ≡ Some plans = ap (λ (m : List GoalSet). plans_at m g) (sym empty) ∙ at in absurd cc

  pub closed_none : (memo : List GoalSet) → memo ≡ [] → IsClosed q rules memo
  unfolding IsClosed
  closed_none memo empty g held = absurd (false≢true (subst (λ (m : List GoalSet). IsHeld m g) empty held))

  set_at : (memo : List GoalSet) (g : Goal) (plans : List DerivedPlan) → HoldsFrontiers q rules memo → Some plans ≡ plans_at memo g → IsBestOf q rules (ForGoal g.tables g.pushed) plans
  unfolding HoldsFrontiers
  set_at memo g plans frontiers at = frontiers g plans (sym at)

-- the query's goal is held
pub own_held : (q : Query) (rules : RuleFile) (memo : List GoalSet) (g : Goal) → g ≡ record { tables = all_quants q; pushed = 0 } → HoldsQueryGoals q rules memo → None ≡ plans_at memo g → ⊥
own_held q rules memo g is goals none =
    let held : IsHeld memo g = subst (λ (h : Goal). IsHeld memo h) (sym is) ((goals (record { tables = all_quants q; pushed = 0 })).1 AskedGoal.of_query) in
    false≢true (ap is_some none ∙ held)

-- the goal of a query is one of its goals
pub own_goal : (q : Query) (rules : RuleFile) (g : Goal) → WellFormedQuery q → IsAccepted rules → g ≡ record { tables = all_quants q; pushed = 0 } → IsGoal q g.tables g.pushed
own_goal q rules g formed accepted is =
    subst (λ (h : Goal). IsGoal q h.tables h.pushed) (sym is) (asked_goals_are_goals q rules accepted formed (all_quants q) 0 AskedGoal.of_query)

pub own_set : (q : Query) (rules : RuleFile) (memo : List GoalSet) (g : Goal) (plans : List DerivedPlan) → g ≡ record { tables = all_quants q; pushed = 0 } → HoldsFrontiers q rules memo
    → Some plans ≡ plans_at memo g → IsBestOf q rules (query_goal q) plans
own_set q rules memo g plans is frontiers at = subst (λ (h : Goal). IsBestOf q rules (ForGoal h.tables h.pushed) plans) is (set_at q rules memo g plans frontiers at)
