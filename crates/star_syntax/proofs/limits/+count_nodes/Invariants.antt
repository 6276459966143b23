use Rattle.std.proofs.Common.{length}
use Rattle.star_model.specs.Monotone.{nodes}
use Rattle.star_syntax.proofs.limits.+count_nodes.Given as goal

abbrev pub decreases-count_nodes : goal.decreases-count_nodes
decreases-count_nodes l = length (nodes l.formula.now)
