-- The goals that a query asks for are those asked from its goal, and a closed memo holds with each goal all that are asked from it. So a
-- memo that grew from nothing for the query's goal holds just the goals that the query asks for.
use Rattle.std.proofs.Common.{◌≡◌, ℕ, List, [], ◌++◌, ap, sym, ◌∙◌, subst}
use Rattle.std.specs.Prelude.{◌↔◌, Contains}
use Rattle.star_model.specs.AskedGoals.{Asks, AskedGoal}
use Rattle.star_model.specs.Predicates.{all_quants}
use Rattle.star_model.specs.declared.plans.Goal.{Goal}
use Rattle.star_model.specs.declared.query.Query.{Query}
use Rattle.star_model.specs.declared.rules.RuleFile.{RuleFile}
use Rattle.table_set_memo.specs.Memos.{GoalSet, IsHeld}
use Rattle.table_set_memo.proofs.Laws.{plans_at-listed}
use Rattle.search_places.specs.Memos.{HoldsAsked, IsClosed}
use Rattle.star_expand.specs.Expanding.{AskedFrom, Grows, HoldsQueryGoals}
use Rattle.star_expand.proofs.Growing.{some_plans}

module _ (q : Query) (rules : RuleFile) where
  one_further : (s j u l t k : ℕ) → AskedFrom q rules s j u l → Asks q rules u l t k → AskedFrom q rules s j t k
  one_further s j u l t k (AskedFrom.itself m n) asks = AskedFrom.through m n t k t k asks (AskedFrom.itself t k)
  one_further s j u l t k (AskedFrom.through m n x y v w first more) asks = AskedFrom.through m n x y t k first (one_further x y v w t k more asks)

  from_query : (t k : ℕ) → AskedGoal q rules t k → AskedFrom q rules (all_quants q) 0 t k
  from_query t k AskedGoal.of_query = AskedFrom.itself (all_quants q) 0
  from_query t k (AskedGoal.of_goal s j u l asked asks) = one_further (all_quants q) 0 s j u l (from_query s j asked) asks

  asked_further : (s j t k : ℕ) → AskedFrom q rules s j t k → AskedGoal q rules s j → AskedGoal q rules t k
  asked_further s j t k (AskedFrom.itself m n) asked = asked
  asked_further s j t k (AskedFrom.through m n x y v w asks more) asked = asked_further x y v w more (AskedGoal.of_goal m n x y asked asks)

  pub asked_from_query : (t k : ℕ) → AskedGoal q rules t k ↔ AskedFrom q rules (all_quants q) 0 t k
  asked_from_query t k = (from_query t k, λ from. asked_further (all_quants q) 0 t k from AskedGoal.of_query)

  abbrev goal_with : ℕ → ℕ → Goal
  goal_with t k = record { tables = t; pushed = k }

  held_further : (memo : List GoalSet) → IsClosed q rules memo → (s j t k : ℕ) → AskedFrom q rules s j t k → IsHeld memo (goal_with s j) → IsHeld memo (goal_with t k)
  unfolding IsClosed HoldsAsked
  held_further memo closed s j t k (AskedFrom.itself m n) held = held
  held_further memo closed s j t k (AskedFrom.through m n x y v w asks more) held = held_further memo closed x y v w more (closed (goal_with m n) held (goal_with x y) asks)

  pub closed_holds : (memo : List GoalSet) (g h : Goal) → IsClosed q rules memo → IsHeld memo g → AskedFrom q rules g.tables g.pushed h.tables h.pushed → IsHeld memo h
  closed_holds memo g h closed held from = held_further memo closed g.tables g.pushed h.tables h.pushed from held

  pub query_goals_held : (old new : List GoalSet) (g : Goal) → old ≡ [] → g ≡ goal_with (all_quants q) 0 → IsClosed q rules new → Grows q rules g old new → IsHeld new g → HoldsQueryGoals q rules new
  query_goals_held old new g empty own closed grows held h = (asked, all)
    where
      from_own : (t k : ℕ) → AskedFrom q rules g.tables g.pushed t k → AskedFrom q rules (all_quants q) 0 t k
      from_own t k from = subst (λ (u : Goal). AskedFrom q rules u.tables u.pushed t k) own from

      asked : IsHeld new h → AskedGoal q rules h.tables h.pushed
      asked held =
          let (plans, at) = some_plans q rules new h held in
          let listed = subst (λ (m : List GoalSet). Contains {X = GoalSet} m (h, plans)) (grows.behind ∙ ap (λ m. m ++ grows.added) empty) (plans_at-listed new h plans at) in
          (asked_from_query h.tables h.pushed).1 (from_own h.tables h.pushed (grows.asked (h, plans) listed))

      all : AskedGoal q rules h.tables h.pushed → IsHeld new h
      all asked =
          closed_holds new g h closed held
          (subst (λ (u : Goal). AskedFrom q rules u.tables u.pushed h.tables h.pushed) (sym own) ((asked_from_query h.tables h.pushed).0 asked))
