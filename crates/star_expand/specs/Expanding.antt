-- How a memo grows when a goal is expanded, and what it holds when a query's goal was.
use Rattle.std.specs.Prelude.{◌≡◌, ℕ, List, ◌++◌, Contains, ◌↔◌}
use Rattle.star_model.specs.AskedGoals.{Asks, AskedGoal}
use Rattle.star_model.specs.declared.plans.Goal.{Goal}
use Rattle.star_model.specs.declared.query.Query.{Query}
use Rattle.star_model.specs.declared.rules.RuleFile.{RuleFile}
use Rattle.table_set_memo.specs.Memos.{GoalSet, IsHeld}

module _ (q : Query) (rules : RuleFile) where
  -- the goal, those that it asks for, and those that these ask for
  pub data AskedFrom : (s j t k : ℕ) → Type 0 where
    itself : (s j : ℕ) → AskedFrom s j s j
    through : (s j u l t k : ℕ) → Asks q rules s j u l → AskedFrom u l t k → AskedFrom s j t k

  -- goals were added behind the old ones, each asked from this goal
  pub record Grows (g : Goal) (old new : List GoalSet) : Type 0 where
    pub added : List GoalSet
    pub behind : new ≡ old ++ added
    pub asked : (s : GoalSet) → Contains added s → AskedFrom g.tables g.pushed s.0.tables s.0.pushed

  -- the goals that the query asks for are held, and no others
  abbrev pub HoldsQueryGoals : List GoalSet → Type 0
  HoldsQueryGoals memo = (g : Goal) → IsHeld memo g ↔ AskedGoal q rules g.tables g.pushed
