-- Of the set of its goal, what Glue makes is best where Glue stands.
use Rattle.std.proofs.Common.{◌≡◌, ℕ, List, [], Result, Ok, Err, IfOk, Option, Some, None, IsSome, sym, ◌∙◌, subst}
use Rattle.std.proofs.lemmas.Bool.{false≢true}
use Rattle.std.specs.declared.alloc.AllocError.{AllocError}
use Rattle.star_model.specs.AskedGoals.{Asks}
use Rattle.star_model.specs.Costs.{costs_of}
use Rattle.star_model.specs.Exchange.{CostsPass}
use Rattle.star_model.specs.Expected.{ForGoal, Expression, goal_of}
use Rattle.star_model.specs.Meaning.{meaning, as_stream, as_preds}
use Rattle.star_model.specs.declared.costs.CostEntry.{CostEntry}
use Rattle.star_model.specs.declared.plans.Goal.{Goal}
use Rattle.star_model.specs.declared.rules.PlanExpr.TheVariants as made
use Rattle.star_model.specs.declared.rules.ValueExpr.{ValueExpr}
use Rattle.star_model.specs.declared.values.RuleValue.{RuleValue}
use Rattle.star_model.specs.declared.values.StreamValue.{StreamValue}
use Rattle.dominance_prune.specs.Gathering.{Gathers, From, IsFrontier}
use Rattle.lolepop.specs.Derived.{DerivedPlan, is_better_plan, GluesTo, AllFit}
use Rattle.table_set_memo.specs.Memos.{plans_at, IsHeld}
use Rattle.exchange.specs.Places.{IsBestOf}
use Rattle.exchange.proofs.Laws.{best_fit, glue_exchange}
use Rattle.shared_sets.specs.declared.glued_sets.GlueRequest.{GlueRequest}
use Rattle.search_places.specs.declared.search.Search.{Search}
use Rattle.search_places.specs.Memos.{HoldsFrontiers, HoldsAsked}
use Rattle.search_places.specs.Searching.{IsOpen, LeadsTo}
use Rattle.search_places.specs.Shared.{IsGlued}

-- a request of Glue, of the set that the memo has for its goal
module _ (s : Search) (r : GlueRequest) where
  pub glue_is_there : IsHeld s.memo.now r.goal → None ≡ plans_at s.memo.now r.goal → ⊥
  glue_is_there held none = false≢true (subst (λ (o : Option (List DerivedPlan)). IsSome o) (sym none) held)

  best_there : IsOpen s → (plans : List DerivedPlan) → Some plans ≡ plans_at s.memo.now r.goal → IsBestOf s.query.now s.rules.now (ForGoal r.goal.tables r.goal.pushed) plans
  unfolding HoldsFrontiers
  best_there ready plans at = ready.frontiers r.goal plans (sym at)

  pub fit_there : IsOpen s → (plans : List DerivedPlan) → Some plans ≡ plans_at s.memo.now r.goal → (costs : List CostEntry) → costs ≡ costs_of s.rules.now → AllFit s.query.now costs plans
  fit_there ready plans at costs are =
      subst (λ (cs : List CostEntry). AllFit s.query.now cs plans) (sym are) (best_fit s.query.now s.rules.now (ForGoal r.goal.tables r.goal.pushed) plans (best_there ready plans at))

  pub glue_done : CostsPass (costs_of s.rules.now) → IsOpen s → (plans : List DerivedPlan) → Some plans ≡ plans_at s.memo.now r.goal → (costs : List CostEntry) → costs ≡ costs_of s.rules.now
      → (result : Result (List DerivedPlan) AllocError) → IfOk result (IsFrontier is_better_plan (From plans (GluesTo s.query.now costs r.require))) → IfOk result (IsGlued s.query.now s.rules.now r)
  glue_done pass ready plans at costs are (Err e) h = h
  glue_done pass ready plans at costs are (Ok set) h = λ x glues. record { gathered = glue_exchange s.query.now s.rules.now pass x (ForGoal r.goal.tables r.goal.pushed) r.require glues plans [] set (best_there ready plans at) made_of; apart = h.apart }
    where
      made_of : Gathers is_better_plan [] set (From plans (GluesTo s.query.now (costs_of s.rules.now) r.require))
      made_of = subst (λ (cs : List CostEntry). Gathers is_better_plan [] set (From plans (GluesTo s.query.now cs r.require))) are h.gathered

-- a Glue of this stream t and these predicates p, whose goal is g
module _ (s : Search) (stream preds : ValueExpr) (b : List RuleValue) (t : StreamValue) (p : ℕ) (g : Goal) (is_stream : t ≡ as_stream (meaning s.query.now b stream))
    (are_preds : p ≡ as_preds (meaning s.query.now b preds)) (is_goal : goal_of s.query.now t.tables p ≡ ForGoal g.tables g.pushed) where
  own_goal : goal_of s.query.now (as_stream (meaning s.query.now b stream)).tables (as_preds (meaning s.query.now b preds)) ≡ ForGoal g.tables g.pushed
  own_goal =
      let same : goal_of s.query.now t.tables p ≡ goal_of s.query.now (as_stream (meaning s.query.now b stream)).tables (as_preds (meaning s.query.now b preds)) =
      (λ i. goal_of s.query.now (is_stream i).tables (are_preds i)) in
      sym same ∙ is_goal

  pub glue_is_held : IsOpen s → LeadsTo s (Expression (made.Glue stream preds) b) → IsHeld s.memo.now g
  unfolding HoldsAsked
  glue_is_held ready leads = ready.asked g (Asks.by_glue s.goal.tables s.goal.pushed g.tables g.pushed stream preds b leads own_goal)

  -- what Glue makes for its request is best where it stands
  pub glued_here : (plans : List DerivedPlan) → IsGlued s.query.now s.rules.now (record { goal = g; require = t.require }) plans → IsBestOf s.query.now s.rules.now (Expression (made.Glue stream preds) b) plans
  glued_here plans glued = glued (Expression (made.Glue stream preds) b) (λ i. Some ((sym is_stream i).require, own_goal i))
