-- Plans with a vector at each operator, and which of them fit a query.
use Rattle.std.specs.Prelude.{◌≡◌, ℕ, ◌+◌, List, [], ◌∷◌, Some}
use Rattle.star_model.specs.Plans.{vector}
use Rattle.star_model.specs.PlanCases as plan
use Rattle.star_model.specs.declared.plans.Plan.TheVariants as made
use Rattle.star_model.specs.declared.query.Query.{Query}
use Rattle.star_model.specs.declared.costs.CostEntry.{CostEntry}
use Rattle.star_model.specs.declared.plans.Op.{Op}
use Rattle.star_model.specs.declared.plans.Plan.{Plan}
use Rattle.star_model.specs.declared.plans.Props.{Props}

-- an operator with a vector, over trees
pub data PlanTree : Type 0 where
  Leaf : (o : Op) (v : Props) → PlanTree
  Unary : (o : Op) (v : Props) (input : PlanTree) → PlanTree
  Binary : (o : Op) (v : Props) (left right : PlanTree) → PlanTree

-- the parts of the top
abbrev pub top_op : PlanTree → Op
top_op (Leaf o v) = o
top_op (Unary o v t) = o
top_op (Binary o v s t) = o

abbrev pub top_vector : PlanTree → Props
top_vector (Leaf o v) = v
top_vector (Unary o v t) = v
top_vector (Binary o v s t) = v

abbrev pub inputs_of : PlanTree → List PlanTree
inputs_of (Leaf o v) = []
inputs_of (Unary o v t) = t ∷ []
inputs_of (Binary o v s t) = s ∷ t ∷ []

-- the tree without its vectors
abbrev pub plan_under : PlanTree → Plan
plan_under (Leaf o v) = made.Leaf o
plan_under (Unary o v t) = plan.Unary o (plan_under t)
plan_under (Binary o v s t) = plan.Binary o (plan_under s) (plan_under t)

-- whether the vector of each node is that of its plan
abbrev pub Fits : Query → List CostEntry → PlanTree → Type 0
Fits q costs (Leaf o v) = vector q costs (made.Leaf o) ≡ Some v
Fits q costs (Unary o v t) = (vector q costs (plan_under (Unary o v t)) ≡ Some v) × Fits q costs t
Fits q costs (Binary o v s t) = (vector q costs (plan_under (Binary o v s t)) ≡ Some v) × Fits q costs s × Fits q costs t

abbrev pub node_count : PlanTree → ℕ
node_count (Leaf o v) = 1
node_count (Unary o v t) = node_count t + 1
node_count (Binary o v s t) = node_count s + node_count t + 1
