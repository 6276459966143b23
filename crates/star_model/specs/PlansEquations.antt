-- Written by tools/cases.py.
-- What the definitions of Plans are of the values that code makes, for proofs about code.
use Rattle.std.specs.Prelude.{◌≡◌, refl, List, []}
use denote.Hole.Carrier.{hidden}
use Rattle.star_model.specs.declared.plans.Plan.TheBlock.{hidden-the_row-Plan-0}
use Rattle.star_model.specs.declared.plans.Plan.TheVariants as made
use Rattle.std.specs.Prelude.{◌∷◌, option_and_then}
use Rattle.star_model.specs.Operators.{step}
use Rattle.star_model.specs.declared.query.Query.{Query}
use Rattle.star_model.specs.declared.costs.CostEntry.{CostEntry}
use Rattle.star_model.specs.declared.plans.Plan.{Plan}
use Rattle.star_model.specs.declared.plans.Op.{Op}
use Rattle.star_model.specs.Plans.{vector}

pub vector-Leaf : (q : Query) (costs : List CostEntry) (o : Op) → vector q costs (made.Leaf o) ≡ (step q costs o [])
unfolding vector
vector-Leaf q costs o = refl

pub vector-Unary : (q : Query) (costs : List CostEntry) (o : Op) (p : Plan) → vector q costs (made.Unary o p) ≡ (option_and_then (λ v. step q costs o (v ∷ [])) (vector q costs p))
unfolding vector hidden-the_row-Plan-0 hidden
vector-Unary q costs o p = refl

pub vector-Binary : (q : Query) (costs : List CostEntry) (o : Op) (a : Plan) (b : Plan) → vector q costs (made.Binary o a b) ≡ (option_and_then (λ v. option_and_then (λ w. step q costs o (v ∷ w ∷ [])) (vector q costs b)) (vector q costs a))
unfolding vector hidden-the_row-Plan-0 hidden
vector-Binary q costs o a b = refl

pub ruleset vector_cases = (vector-Leaf, vector-Unary, vector-Binary)
