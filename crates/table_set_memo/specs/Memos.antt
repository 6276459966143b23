-- A memo as the list of its goals with their sets, in the order in which they were put.
use Rattle.std.specs.Prelude.{Bool, ◌&&◌, nat_eq, List, Option, map, IsSome}
use Rattle.std.specs.List.{find}
use Rattle.std.specs.Option.{option_map}
use Rattle.star_model.specs.declared.plans.Goal.{Goal}
use Rattle.lolepop.specs.Derived.{DerivedPlan}

-- a goal and its set
abbrev pub GoalSet : Type 0
GoalSet = Goal × List DerivedPlan

abbrev pub same_goal : Goal → Goal → Bool
same_goal g h = nat_eq g.tables h.tables && nat_eq g.pushed h.pushed

abbrev pub goals_of : List GoalSet → List Goal
goals_of memo = map (λ s. s.0) memo

-- the set of the goal
abbrev pub plans_at : List GoalSet → Goal → Option (List DerivedPlan)
plans_at memo goal = option_map (λ s. s.1) (find (λ s. same_goal goal s.0) memo)

abbrev pub IsHeld : List GoalSet → Goal → Type 0
IsHeld memo goal = IsSome (plans_at memo goal)
