-- The nodes below a node, as a walk over a plan has them.
use Rattle.std.specs.Prelude.{List, [], ◌∷◌}
use Rattle.lolepop.specs.PlanTrees.{PlanTree}
use Rattle.lolepop.specs.declared.below.Below.{Below}
use Rattle.lolepop.specs.declared.below.Below.TheVariants as below

abbrev pub nodes_in : Below → List PlanTree
nodes_in below.None = []
nodes_in (below.One t) = t.now ∷ []
nodes_in (below.Two s t) = s.now ∷ t.now ∷ []
