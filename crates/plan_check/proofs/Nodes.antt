-- Each tree has a node.
use Rattle.std.proofs.Common.{◌≤◌, arith}
use Rattle.star_model.specs.Judging.{node_count}
use Rattle.star_model.specs.DerivCases.{Glue, Goal, Reference, Unary, Binary}
use Rattle.star_model.specs.declared.derivations.Deriv.TheVariants.{Leaf}
use Rattle.star_model.specs.declared.derivations.Deriv.{Deriv}

pub some_node : (d : Deriv) → 1 ≤ node_count d
unfolding node_count
some_node (Glue chain d) = omega arith
some_node (Goal g split d) = omega arith
some_node (Reference star k picks d) = omega arith
some_node (Leaf f) = omega arith
some_node (Unary f d) = omega arith
some_node (Binary f d e) = omega arith
