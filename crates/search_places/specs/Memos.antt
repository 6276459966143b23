-- What a memo of goals' sets holds.
use Rattle.std.specs.Prelude.{◌≡◌, ℕ, List, Option, Some, None}
use Rattle.star_model.specs.AskedGoals.{Asks}
use Rattle.star_model.specs.Expected.{ForGoal}
use Rattle.star_model.specs.declared.plans.Goal.{Goal}
use Rattle.star_model.specs.declared.query.Query.{Query}
use Rattle.star_model.specs.declared.rules.RuleFile.{RuleFile}
use Rattle.lolepop.specs.Derived.{DerivedPlan}
use Rattle.table_set_memo.specs.Memos.{GoalSet, plans_at, IsHeld}
use Rattle.exchange.specs.Places.{IsBestOf}

module _ (q : Query) (rules : RuleFile) where
  -- each held goal has its own set
  unfoldable pub HoldsFrontiers : List GoalSet → Type 0
  HoldsFrontiers memo = (g : Goal) (plans : List DerivedPlan) → plans_at memo g ≡ Some plans → IsBestOf q rules (ForGoal g.tables g.pushed) plans

  -- each goal that the goal asks for is held
  unfoldable pub HoldsAsked : List GoalSet → Goal → Type 0
  HoldsAsked memo g = (h : Goal) → Asks q rules g.tables g.pushed h.tables h.pushed → IsHeld memo h

  -- with each held goal those that it asks for are held
  unfoldable pub IsClosed : List GoalSet → Type 0
  IsClosed memo = (g : Goal) → IsHeld memo g → HoldsAsked memo g

-- the first goal that is asked for and isn't held, if there is one
abbrev pub FirstMissing : List GoalSet → (ℕ → ℕ → Type 0) → Option Goal → Type 0
FirstMissing memo Asked None = (h : Goal) → Asked h.tables h.pushed → IsHeld memo h
FirstMissing memo Asked (Some h) = Asked h.tables h.pushed × (plans_at memo h ≡ None)
