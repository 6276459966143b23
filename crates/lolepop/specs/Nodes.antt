-- A node as the tree that it stands for.
use Rattle.std.specs.Prelude.{◌≡◌, ◌∷◌, length}
use Rattle.star_model.specs.declared.plans.Op.{Op}
use Rattle.star_model.specs.declared.plans.Props.{Props}
use Rattle.lolepop.specs.PlanTrees.{PlanTree, Leaf, Unary, Binary}
use Rattle.lolepop.specs.declared.plan_node.NodeInputs.{NodeInputs}
use Rattle.lolepop.specs.declared.plan_node.NodeInputs.TheVariants as inputs

-- an array is seen as a list, of which the logic doesn't know the length
abbrev pub HasCount : NodeInputs → Type 0
HasCount (inputs.Two pair) = length pair ≡ 2
HasCount _ = Unit {0}

-- the last case has no node
abbrev pub tree_of : Op → Props → NodeInputs → PlanTree
tree_of o v inputs.None = Leaf o v
tree_of o v (inputs.One t) = Unary o v t.value
tree_of o v (inputs.Two (s ∷ t ∷ _)) = Binary o v s.value t.value
tree_of o v (inputs.Two _) = Leaf o v
