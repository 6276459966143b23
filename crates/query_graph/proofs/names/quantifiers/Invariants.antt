use Rattle.std.proofs.Common.{map, take}
use Rattle.query_graph.specs.Words.{said_item}
use Rattle.query_graph.specs.Quantifiers.{HoldsItems}
use Rattle.query_graph.proofs.names.quantifiers.Given as goal

abbrev pub invariant-loop-item : goal.invariant-loop-item
invariant-loop-item l = HoldsItems l.set (map said_item (take l.item-index l.items))
