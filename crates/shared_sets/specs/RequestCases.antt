-- The test of requests of Glue is one of equality. (Comparisons that the code has cite it.)
use Rattle.std.proofs.Common.{◌≡◌, true, refl}
use Rattle.std.specs.Bool.{Decides}
use Rattle.std.specs.Cmp.{IsEquivalence, IsPartialEquivalence, partial_equiv_from_equiv, decided}
use Rattle.std.proofs.lemmas.Bool.{and_parts, and_from}
use Rattle.shared_sets.specs.Tables.{same_request}
use Rattle.shared_sets.specs.declared.glued_sets.GlueRequest.{GlueRequest}
use Rattle.shared_sets.specs.EqualityCases.{from_itself, goal_decides, require_decides}

pub request_decides : (r s : GlueRequest) → Decides (same_request r s) (r ≡ s)
request_decides = from_itself same_request to (λ r. and_from _ _ ((goal_decides r.goal r.goal).1 refl) ((require_decides r.require r.require).1 refl))
  where
    to : (r s : GlueRequest) → same_request r s ≡ true → r ≡ s
    to r s same =
        let both = and_parts _ _ same in
        (λ i. record { goal = (goal_decides r.goal s.goal).0 both.0 i; require = (require_decides r.require s.require).0 both.1 i })

pub requests_are_equal : IsEquivalence same_request
requests_are_equal = decided same_request request_decides

pub requests_compare : IsPartialEquivalence same_request
requests_compare = partial_equiv_from_equiv requests_are_equal
