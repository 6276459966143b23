-- Of sets that have what is best where the roots are called, the splits make one that has what is best for a goal.
use Rattle.std.proofs.Common.{◌≡◌, ℕ, ◌<◌, ◌^◌, true, false, not, ◌&&◌, nat_eq, List, Option, Some, None, refl, ap, sym, ◌∙◌}
use Rattle.std.proofs.lemmas.Bool.{false≢true, eq-eqb}
use Rattle.star_model.specs.Sets.{union, meet, size, splits}
use Rattle.star_model.specs.Vectors.{is_better}
use Rattle.star_model.specs.Expected.{ForGoal, may_split, root_call}
use Rattle.star_model.specs.declared.query.Query.{Query}
use Rattle.star_model.specs.declared.rules.RuleFile.{RuleFile}
use Rattle.dominance_prune.specs.Gathering.{Gathers, From}
use Rattle.dominance_prune.specs.GatheringCases.{Gathers-represented, Gathers-same}
use Rattle.lolepop.specs.Derived.{DerivedPlan, vector_of, is_better_plan, under_goal}
use Rattle.exchange.specs.Places.{IsDerived, IsBestOf, ReachesTo, SplitWay, GoalWay}
use Rattle.star_model.proofs.Laws.{better_meets}
use Rattle.exchange.proofs.OperatorExchange.{better_plan_transitive, best_above, best_derived}
use Rattle.exchange.proofs.Splits.{split_listed}
use Rattle.exchange.proofs.CallWays.{goal_derived, goal_way}

module _ (q : Query) (rules : RuleFile) (s j : ℕ) where
  pub split_exchange : (split : Option (ℕ × ℕ)) (plans old new : List DerivedPlan) → may_split s split ≡ true → IsBestOf q rules (root_call s j split) plans
      → Gathers is_better_plan old new (From plans (ReachesTo q s j split)) → Gathers is_better_plan old new (SplitWay q rules s j split)
  split_exchange split plans old new may best g =
      Gathers-represented is_better_plan better_plan_transitive (From plans (ReachesTo q s j split)) (SplitWay q rules s j split) old new
      (λ x made. (made.0, may, best_derived q rules (root_call s j split) plans best made.0 made.1, made.2))
      (λ x way.
      let m = best_above q rules (root_call s j split) plans best way.0 way.2 in
      let target = better_meets q s j (vector_of m.0) (vector_of way.0) m.2 way.3.0 in (
        under_goal (record { tables = s; pushed = j }) split m.0,
        (m.0, m.1, (target, refl)),
        (λ k. is_better (vector_of m.0) (vector_of (way.3.1 k))) ∙ m.2,
      ))
      g

  -- a goal of one quantifier has no split
  pub one_exchange : (old new : List DerivedPlan) → size s ≡ 1 → Gathers is_better_plan old new (SplitWay q rules s j None) → Gathers is_better_plan old new (IsDerived q rules (ForGoal s j))
  one_exchange old new one g =
      Gathers-same is_better_plan (SplitWay q rules s j None) (IsDerived q rules (ForGoal s j)) old new
      (λ x way. goal_derived q rules s j x (None, way))
      (λ x derived. none_of x (goal_way q rules s j x derived))
      g
    where
      none_of : (x : DerivedPlan) → GoalWay q rules s j x → SplitWay q rules s j None x
      none_of x (None, way) = way
      none_of x (Some p, way) =
          absurd (false≢true (sym (ap (λ b. not b && nat_eq (union p.0 p.1) s && nat_eq (meet p.0 p.1) 0 && not (nat_eq p.0 0) && not (nat_eq p.1 0)) (eq-eqb (size s) 1 one)) ∙ way.1))

  -- a goal of several has each split of the list
  pub several_exchange : (old new : List DerivedPlan) → s < 2 ^ 32 → nat_eq (size s) 1 ≡ false → Gathers is_better_plan old new (From (splits s) (λ p. SplitWay q rules s j (Some p)))
      → Gathers is_better_plan old new (IsDerived q rules (ForGoal s j))
  several_exchange old new bounded several g =
      Gathers-same is_better_plan (From (splits s) (λ p. SplitWay q rules s j (Some p))) (IsDerived q rules (ForGoal s j)) old new
      (λ x way. goal_derived q rules s j x (Some way.0, way.2))
      (λ x derived. some_of x (goal_way q rules s j x derived))
      g
    where
      some_of : (x : DerivedPlan) → GoalWay q rules s j x → From (splits s) (λ p. SplitWay q rules s j (Some p)) x
      some_of x (Some p, way) = (p, (split_listed s bounded several p).0 way.1, way)
      some_of x (None, way) = absurd (false≢true (sym several ∙ way.1))
