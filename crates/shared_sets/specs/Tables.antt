-- Tables of sets of plans, as the lists of what was kept, in the order in which it was.
use Rattle.std.specs.Prelude.{Bool, ◌&&◌, ℕ, nat_eq, List, Option}
use Rattle.std.specs.List.{find}
use Rattle.std.specs.Option.{option_map}
use Rattle.std.specs.Cmp.Lexicographic.{pointwise}
use Rattle.star_model.specs.declared.values.RuleValue.{RuleValue}
use Rattle.lolepop.specs.Derived.{DerivedPlan}
use Rattle.shared_sets.specs.Equality.{equal_value, equal_goal, equal_require}
use Rattle.shared_sets.specs.declared.ref_table.StarCall.{StarCall}
use Rattle.shared_sets.specs.declared.glued_sets.GlueRequest.{GlueRequest}

-- the set of the first key that is the same as this one
abbrev pub set_for : {K : Type 0} → (K → K → Bool) → List (K × List DerivedPlan) → K → Option (List DerivedPlan)
set_for same table key = option_map (λ s. s.1) (find (λ s. same key s.0) table)

-- ---- calls of STARs

abbrev pub same_call : StarCall → StarCall → Bool
same_call c d = pointwise nat_eq c.star d.star && pointwise equal_value c.env d.env

-- the set that was kept for the STAR under the values of its parameters
abbrev pub kept_for : List (StarCall × List DerivedPlan) → List ℕ → List RuleValue → Option (List DerivedPlan)
kept_for table star env = set_for same_call table (record { star = star; env = env })

-- ---- what Glue was asked for

abbrev pub same_request : GlueRequest → GlueRequest → Bool
same_request r s = equal_goal r.goal s.goal && equal_require r.require s.require

-- the set that was put for the request
abbrev pub glued_for : List (GlueRequest × List DerivedPlan) → GlueRequest → Option (List DerivedPlan)
glued_for table request = set_for same_request table request
