-- What tables have, and after a set more was kept.
use Rattle.std.proofs.Common.{◌≡◌, ℕ, Bool, true, false, ◌⊎◌, inl, inr, List, [], ◌∷◌, ◌++◌, Some, None, refl, ap, sym, cond, if◌then◌else◌}
use Rattle.std.specs.Bool.{Decides}
use Rattle.std.specs.Cmp.Lexicographic.{pointwise_decides, bytes_decides}
use Rattle.std.specs.List.{find}
use Rattle.std.specs.Map.{lookup}
use Rattle.std.specs.Option.{option_map}
use Rattle.std.proofs.lemmas.Bool.{and_parts, and_from}
use Rattle.star_model.specs.declared.values.RuleValue.{RuleValue}
use Rattle.lolepop.specs.Derived.{DerivedPlan}
use Rattle.shared_sets.specs.Tables.{set_for, same_call, kept_for, same_request, glued_for}
use Rattle.shared_sets.specs.declared.ref_table.StarCall.{StarCall}
use Rattle.shared_sets.specs.declared.glued_sets.GlueRequest.{GlueRequest}
use Rattle.shared_sets.specs.EqualityCases.{from_itself, value_decides}
use Rattle.shared_sets.specs.RequestCases.{request_decides}

pub call_decides : (c d : StarCall) → Decides (same_call c d) (c ≡ d)
call_decides = from_itself same_call to (λ c. and_from _ _ ((bytes_decides c.star c.star).1 refl) ((pointwise_decides value_decides c.env c.env).1 refl))
  where
    to : (c d : StarCall) → same_call c d ≡ true → c ≡ d
    to c d same =
        let both = and_parts _ _ same in
        (λ i. record { star = (bytes_decides c.star d.star).0 both.0 i; env = (pointwise_decides value_decides c.env d.env).0 both.1 i })

module _ {K : Type 0} (same : K → K → Bool) where
  -- as a map says it
  pub set_for-lookup : (table : List (K × List DerivedPlan)) (key : K) → lookup (same key) table ≡ set_for same table key
  set_for-lookup [] key = refl
  set_for-lookup (s ∷ table) key = by (same key s.0) (set_for-lookup table key)
    where
      by : (b : Bool) → lookup (same key) table ≡ set_for same table key
          → cond b (Some s.1) (lookup (same key) table) ≡ option_map (λ (s : K × List DerivedPlan). s.1) (if b then Some s else find (λ (s : K × List DerivedPlan). same key s.0) table)
      by true later = refl
      by false later = later

  pub set_for-push_cases : ((x y : K) → same x y ≡ true → x ≡ y) → (table : List (K × List DerivedPlan)) (key other : K) (plans found : List DerivedPlan)
      → set_for same (table ++ (key, plans) ∷ []) other ≡ Some found → (set_for same table other ≡ Some found) ⊎ ((key ≡ other) × (plans ≡ found))
  set_for-push_cases equal [] key other plans found is = by (same other key) refl is
    where
      by : (b : Bool) → same other key ≡ b → option_map (λ (s : K × List DerivedPlan). s.1) (if b then Some (key, plans) else None) ≡ Some found
          → (set_for same [] other ≡ Some found) ⊎ ((key ≡ other) × (plans ≡ found))
      by true alike is = inr (sym (equal other key alike), cc)
      by false alike is = cc
  set_for-push_cases equal (s ∷ table) key other plans found is = by (same other s.0) (set_for-push_cases equal table key other plans found) is
    where
      by : (b : Bool) → (set_for same (table ++ (key, plans) ∷ []) other ≡ Some found → (set_for same table other ≡ Some found) ⊎ ((key ≡ other) × (plans ≡ found)))
          → option_map (λ (s : K × List DerivedPlan). s.1) (if b then Some s else find (λ (s : K × List DerivedPlan). same other s.0) (table ++ (key, plans) ∷ [])) ≡ Some found
          → (option_map (λ (s : K × List DerivedPlan). s.1) (if b then Some s else find (λ (s : K × List DerivedPlan). same other s.0) table) ≡ Some found) ⊎ ((key ≡ other) × (plans ≡ found))
      by true later is = inl is
      by false later is = later is

abbrev call_of : List ℕ → List RuleValue → StarCall
call_of star env = record { star = star; env = env }

pub kept_for-push_cases : (table : List (StarCall × List DerivedPlan)) (star other : List ℕ) (env values : List RuleValue) (plans found : List DerivedPlan)
    → kept_for (table ++ (call_of star env, plans) ∷ []) other values ≡ Some found → (kept_for table other values ≡ Some found) ⊎ ((star ≡ other) × (env ≡ values) × (plans ≡ found))
kept_for-push_cases table star other env values plans found is = parts (set_for-push_cases same_call (λ c d. (call_decides c d).0) table (call_of star env) (call_of other values) plans found is)
  where
    parts : (kept_for table other values ≡ Some found) ⊎ ((call_of star env ≡ call_of other values) × (plans ≡ found))
        → (kept_for table other values ≡ Some found) ⊎ ((star ≡ other) × (env ≡ values) × (plans ≡ found))
    parts (inl before) = inl before
    parts (inr (same, set)) = inr (ap (λ (c : StarCall). c.star) same, ap (λ (c : StarCall). c.env) same, set)

pub glued_for-push_cases : (table : List (GlueRequest × List DerivedPlan)) (r s : GlueRequest) (plans found : List DerivedPlan) → glued_for (table ++ (r, plans) ∷ []) s ≡ Some found
    → (glued_for table s ≡ Some found) ⊎ ((r ≡ s) × (plans ≡ found))
glued_for-push_cases = set_for-push_cases same_request (λ r s. (request_decides r s).0)
