-- The inputs of a node are smaller than it.
use Rattle.std.specs.Prelude.{◌≤◌, [], ◌∷◌}
use Rattle.std.proofs.Common.{arith}
use Rattle.star_model.specs.declared.plans.Op.{Op}
use Rattle.star_model.specs.declared.plans.Props.{Props}
use Rattle.lolepop.specs.PlanTrees.{node_count}
use Rattle.lolepop.specs.Nodes.{HasCount, tree_of}
use Rattle.lolepop.specs.declared.plan_node.NodeInputs.{NodeInputs}
use Rattle.lolepop.specs.declared.plan_node.NodeInputs.TheVariants as inputs
use Rattle.lolepop.specs.declared.plan_node.PlanNode.TheDeep.{deep-NodeInputs}

pub inputs_are_smaller : (o : Op) (v : Props) (ins : NodeInputs) → HasCount ins → deep-NodeInputs ins ≤ node_count (tree_of o v ins)
inputs_are_smaller o v inputs.None h = omega arith
inputs_are_smaller o v (inputs.One t) h = omega arith
inputs_are_smaller o v (inputs.Two []) h = omega arith
inputs_are_smaller o v (inputs.Two (s ∷ [])) h = omega arith
inputs_are_smaller o v (inputs.Two (s ∷ t ∷ [])) h = omega arith
inputs_are_smaller o v (inputs.Two (s ∷ t ∷ r ∷ more)) h = omega arith
