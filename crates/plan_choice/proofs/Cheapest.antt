-- The cheapest of the members that were seen; and that of what Glue makes for the query is a plan of least cost.
use Rattle.std.proofs.Common.{◌≡◌, ◌≤◌, List, [], ◌∷◌, ◌++◌, Option, None, Some, MatchOption, ◌⊎◌, inl, inr, refl, sym, subst, arith}
use Rattle.std.specs.Prelude.{Contains}
use Rattle.std.proofs.lemmas.List.Elements.{Contains-push, Contains-push_cases, Contains-append_left}
use Rattle.star_model.specs.Accepted.{IsAccepted}
use Rattle.star_model.specs.Costs.{costs_of}
use Rattle.star_model.specs.Expected.{ForQuery, query_goal, root_requirement}
use Rattle.star_model.specs.declared.query.Query.{Query}
use Rattle.star_model.specs.declared.costs.CostEntry.{CostEntry}
use Rattle.star_model.specs.declared.plans.Require.{Require}
use Rattle.star_model.specs.declared.rules.RuleFile.{RuleFile}
use Rattle.dominance_prune.specs.Gathering.{From, IsFrontier}
use Rattle.dominance_prune.specs.GatheringCases.{nothing_in}
use Rattle.lolepop.specs.Derived.{DerivedPlan, vector_of, is_better_plan, GluesTo, AllFit}
use Rattle.exchange.specs.Places.{IsBestOf}
use Rattle.exchange.proofs.Laws.{accepted_pass, glue_exchange, best_derived, best_fit, cheapest_is_least}
use Rattle.plan_choice.specs.Choice.{IsCheapest, IsChosen}

-- one member more
pub cheapest_push : (seen : List DerivedPlan) (e made : DerivedPlan) (best : Option DerivedPlan) → MatchOption best (seen ≡ []) (IsCheapest seen)
    → MatchOption best (made ≡ e) (λ b. (vector_of made).cost ≤ (vector_of b).cost) → (vector_of made).cost ≤ (vector_of e).cost → MatchOption best (made ≡ e) (λ b. (made ≡ b) ⊎ (made ≡ e))
    → IsCheapest (seen ++ e ∷ []) made
cheapest_push seen e made None none first second one = record {
  member = subst (λ (u : DerivedPlan). Contains (seen ++ e ∷ []) u) (sym one) (Contains-push seen e);
  least = λ m k. elim (Contains-push_cases seen e m k) [
    | inl early ↦ absurd (nothing_in m (subst (λ (ms : List DerivedPlan). Contains ms m) none early))
    | inr same ↦ subst (λ (u : DerivedPlan). (vector_of made).cost ≤ (vector_of u).cost) same second
  ];
}
cheapest_push seen e made (Some b) best first second one = record {
  member = elim one [
    | inl same ↦ subst (λ (u : DerivedPlan). Contains (seen ++ e ∷ []) u) (sym same) (Contains-append_left seen (e ∷ []) b best.member)
    | inr same ↦ subst (λ (u : DerivedPlan). Contains (seen ++ e ∷ []) u) (sym same) (Contains-push seen e)
  ];
  least = λ m k. elim (Contains-push_cases seen e m k) [
    | inl early ↦ (let less = best.least m early in omega (arith, first, less))
    | inr same ↦ subst (λ (u : DerivedPlan). (vector_of made).cost ≤ (vector_of u).cost) same second
  ];
}

module _ (q : Query) (rules : RuleFile) where
  -- what Glue of the query's requirement makes of the best for its goal is the best for the query
  pub best_for_query : IsAccepted rules → (costs : List CostEntry) (r : Require) (plans glued : List DerivedPlan) → costs ≡ costs_of rules → r ≡ root_requirement q → IsBestOf q rules (query_goal q) plans
      → IsFrontier is_better_plan (From plans (GluesTo q costs r)) glued → IsBestOf q rules ForQuery glued
  best_for_query accepted costs r plans glued same_costs same_require best made =
      let own : IsFrontier is_better_plan (From plans (GluesTo q (costs_of rules) (root_requirement q))) glued =
      subst (λ (w : Require). IsFrontier is_better_plan (From plans (GluesTo q (costs_of rules) w)) glued) same_require
      (subst (λ (cs : List CostEntry). IsFrontier is_better_plan (From plans (GluesTo q cs r)) glued) same_costs made) in
      record {
        gathered = glue_exchange q rules (accepted_pass rules accepted) ForQuery (query_goal q) (root_requirement q) refl plans [] glued best own.gathered;
        apart = own.apart;
      }

  pub cheapest_is_chosen : (glued : List DerivedPlan) → IsBestOf q rules ForQuery glued → (e copy : DerivedPlan) → IsCheapest glued e → copy ≡ e → IsChosen q rules (Some copy)
  cheapest_is_chosen glued best e copy cheapest same =
      subst (λ (x : DerivedPlan). IsChosen q rules (Some x)) (sym same)
      (cheapest_is_least q rules glued best e cheapest.member cheapest.least, best_derived q rules ForQuery glued best e cheapest.member)

  pub plans_fit : (costs : List CostEntry) (plans : List DerivedPlan) → costs ≡ costs_of rules → IsBestOf q rules (query_goal q) plans → AllFit q costs plans
  plans_fit costs plans same best = subst (λ (cs : List CostEntry). AllFit q cs plans) (sym same) (best_fit q rules (query_goal q) plans best)
