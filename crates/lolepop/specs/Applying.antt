-- What an operator gives over plans with their vectors: none where it is not applicable, else the tree with its vector at the top.
use Rattle.std.specs.Prelude.{List, [], ◌∷◌, Option, None}
use Rattle.std.specs.Option.{option_map}
use Rattle.star_model.specs.Operators.{step}
use Rattle.star_model.specs.declared.query.Query.{Query}
use Rattle.star_model.specs.declared.costs.CostEntry.{CostEntry}
use Rattle.star_model.specs.declared.plans.Op.{Op}
use Rattle.lolepop.specs.PlanTrees.{PlanTree, Leaf, Unary, Binary, top_vector}

abbrev pub leaf_tree : Query → List CostEntry → Op → Option PlanTree
leaf_tree q costs o = option_map (Leaf o) (step q costs o [])

abbrev pub unary_tree : Query → List CostEntry → Op → PlanTree → Option PlanTree
unary_tree q costs o t = option_map (λ v. Unary o v t) (step q costs o (top_vector t ∷ []))

abbrev pub binary_tree : Query → List CostEntry → Op → PlanTree → PlanTree → Option PlanTree
binary_tree q costs o s t = option_map (λ v. Binary o v s t) (step q costs o (top_vector s ∷ top_vector t ∷ []))

-- the same over a list of inputs; no operator has three
abbrev pub tree_over : Query → List CostEntry → Op → List PlanTree → Option PlanTree
tree_over q costs o [] = leaf_tree q costs o
tree_over q costs o (t ∷ []) = unary_tree q costs o t
tree_over q costs o (s ∷ t ∷ []) = binary_tree q costs o s t
tree_over q costs o _ = None
