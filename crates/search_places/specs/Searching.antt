-- On what a search of a goal's plans stands, how far it is in an alternative, and how far it still has to go.
use Rattle.std.specs.Prelude.{◌≡◌, ℕ, ◌+◌, ◌*◌, ◌≤◌, max, List, ◌++◌, length, fold, Some}
use Rattle.star_model.specs.Limits.{most_bindings, most_ranges}
use Rattle.star_model.specs.Accepted.{references_in}
use Rattle.star_model.specs.AskedGoals.{Leads}
use Rattle.star_model.specs.Goals.{IsGoal}
use Rattle.star_model.specs.Stars.{alternative_of}
use Rattle.star_model.specs.Expected.{Expected, ForGoal, Call, bound}
use Rattle.star_model.specs.WellFormed.{WellFormedQuery}
use Rattle.star_model.specs.declared.rules.Alternative.{Alternative}
use Rattle.star_model.specs.declared.rules.ForAll.{ForAll}
use Rattle.star_model.specs.declared.rules.PlanExpr.{PlanExpr}
use Rattle.star_model.specs.declared.rules.RuleFile.{RuleFile}
use Rattle.star_model.specs.declared.values.RuleValue.{RuleValue}
use Rattle.star_model.specs.WellFormedRules.{nesting}
use Rattle.star_check.specs.Heights.{height_named}
use Rattle.search_places.specs.declared.search.Search.{Search}
use Rattle.search_places.specs.Memos.{HoldsFrontiers, HoldsAsked}

-- the query is well formed, and the goal is one of its goals
pub record IsPosed (s : Search) : Type 0 where
  pub query : WellFormedQuery s.query.now
  pub goal : IsGoal s.query.now s.goal.tables s.goal.pushed

-- beside that the memo holds frontiers, and has each goal for which this one asks
pub record IsOpen (s : Search) : Type 0 where
  pub query : WellFormedQuery s.query.now
  pub goal : IsGoal s.query.now s.goal.tables s.goal.pushed
  pub frontiers : HoldsFrontiers s.query.now s.rules.now s.memo.now
  pub asked : HoldsAsked s.query.now s.rules.now s.memo.now s.goal

-- the goal leads to the place
abbrev pub LeadsTo : Search → Expected → Type 0
LeadsTo s x = Leads s.query.now s.rules.now (ForGoal s.goal.tables s.goal.pushed) x

-- The goal leads to the call of the STAR, of whose alternative n some for-all names are bound, with these numbers of their values; these
-- are still to be bound. There is room for their values and numbers.
pub record IsWithin (s : Search) (star : List ℕ) (n : ℕ) (a : Alternative) (ranges : List ForAll) (picked : List ℕ) (c : List RuleValue) : Type 0 where
  pub call : List RuleValue
  pub leads : LeadsTo s (Call star call)
  pub found : alternative_of s.rules.now star n ≡ Some a
  pub bindings : (more : List ℕ) → bound s.query.now ranges more c ≡ bound s.query.now a.ranges (picked ++ more) call
  pub room : length c + length ranges ≤ most_bindings
  pub numbers : length picked + length ranges ≤ most_ranges

-- ---- how far a search still has to go

-- the greatest height of a STAR to which the body refers
abbrev pub reach : RuleFile → PlanExpr → ℕ
reach rules e = fold (λ h r. max h (height_named rules r.0)) 0 (references_in e)

-- below an expression: the STARs to which it refers, and then its own parts, of which fewer than 20 stand in one another
abbrev pub work_at : RuleFile → PlanExpr → ℕ
work_at rules e = 20 * (1 + reach rules e) + nesting e

-- in a STAR that is called, with some steps for its for-all names and its bodies
abbrev pub work_in : RuleFile → List ℕ → ℕ → ℕ
work_in rules star steps = 20 * height_named rules star + 10 + steps
