-- Tables hold the right sets while they grow.
use Rattle.std.proofs.Common.{◌≡◌, ℕ, List, [], ◌∷◌, ◌++◌, ◌⊎◌, inl, inr, Some, None, ap, sym, ◌∙◌, subst}
use Rattle.star_model.specs.Expected.{Call}
use Rattle.star_model.specs.declared.query.Query.{Query}
use Rattle.star_model.specs.declared.rules.RuleFile.{RuleFile}
use Rattle.star_model.specs.declared.values.RuleValue.{RuleValue}
use Rattle.lolepop.specs.Derived.{DerivedPlan}
use Rattle.shared_sets.specs.Tables.{kept_for, glued_for}
use Rattle.shared_sets.specs.declared.glued_sets.GlueRequest.{GlueRequest}
use Rattle.shared_sets.specs.declared.ref_table.StarCall.{StarCall}
use Rattle.shared_sets.proofs.Laws.{kept_for-push_cases, glued_for-push_cases}
use Rattle.exchange.specs.Places.{IsBestOf}
use Rattle.search_places.specs.Shared.{IsGlued, HoldsReferences, HoldsGlued}

module _ (q : Query) (rules : RuleFile) where
  pub references_none : (table : List (StarCall × List DerivedPlan)) → table ≡ [] → HoldsReferences q rules table
  unfolding HoldsReferences
  references_none table empty star env plans at = let none : None ≡ Some plans = ap (λ (t : List (StarCall × List DerivedPlan)). kept_for t star env) (sym empty) ∙ at in absurd cc

  pub glued_none : (table : List (GlueRequest × List DerivedPlan)) → table ≡ [] → HoldsGlued q rules table
  unfolding HoldsGlued
  glued_none table empty r plans at = let none : None ≡ Some plans = ap (λ (t : List (GlueRequest × List DerivedPlan)). glued_for t r) (sym empty) ∙ at in absurd cc

  pub reference_there : (table : List (StarCall × List DerivedPlan)) (star : List ℕ) (env : List RuleValue) (plans : List DerivedPlan) → HoldsReferences q rules table
      → Some plans ≡ kept_for table star env → IsBestOf q rules (Call star env) plans
  unfolding HoldsReferences
  reference_there table star env plans holds at = holds star env plans (sym at)

  pub glued_there : (table : List (GlueRequest × List DerivedPlan)) (r : GlueRequest) (plans : List DerivedPlan) → HoldsGlued q rules table → Some plans ≡ glued_for table r → IsGlued q rules r plans
  unfolding HoldsGlued
  glued_there table r plans holds at = holds r plans (sym at)

  pub references_kept : (old new : List (StarCall × List DerivedPlan)) (star : List ℕ) (env : List RuleValue) (plans : List DerivedPlan) → HoldsReferences q rules old
      → IsBestOf q rules (Call star env) plans → new ≡ old ++ (record { star = star; env = env }, plans) ∷ [] → HoldsReferences q rules new
  unfolding HoldsReferences
  references_kept old new star env plans holds best kept = λ other values found is. of other values found
      (kept_for-push_cases old star other env values plans found (ap (λ (t : List (StarCall × List DerivedPlan)). kept_for t other values) (sym kept) ∙ is))
    where
      of : (other : List ℕ) (values : List RuleValue) (found : List DerivedPlan) → (kept_for old other values ≡ Some found) ⊎ ((star ≡ other) × (env ≡ values) × (plans ≡ found))
          → IsBestOf q rules (Call other values) found
      of other values found (inl before) = holds other values found before
      of other values found (inr (same, are, set)) =
          subst (λ (xs : List DerivedPlan). IsBestOf q rules (Call other values) xs) set
          (subst (λ (vs : List RuleValue). IsBestOf q rules (Call other vs) plans) are (subst (λ (n : List ℕ). IsBestOf q rules (Call n env) plans) same best))

  pub glued_put : (old new : List (GlueRequest × List DerivedPlan)) (r : GlueRequest) (plans : List DerivedPlan) → HoldsGlued q rules old → IsGlued q rules r plans → new ≡ old ++ (r, plans) ∷ []
      → HoldsGlued q rules new
  unfolding HoldsGlued
  glued_put old new r plans holds best put = λ s found is. of s found (glued_for-push_cases old r s plans found (ap (λ (t : List (GlueRequest × List DerivedPlan)). glued_for t s) (sym put) ∙ is))
    where
      of : (s : GlueRequest) (found : List DerivedPlan) → (glued_for old s ≡ Some found) ⊎ ((r ≡ s) × (plans ≡ found)) → IsGlued q rules s found
      of s found (inl before) = holds s found before
      of s found (inr (same, set)) = subst (λ (xs : List DerivedPlan). IsGlued q rules s xs) set (subst (λ (k : GlueRequest). IsGlued q rules k plans) same best)
