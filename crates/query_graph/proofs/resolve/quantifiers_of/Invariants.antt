use Rattle.std.proofs.Common.{◌≡◌, map, take, Some}
use Rattle.spelling.specs.Names.{all_of}
use Rattle.query_graph.specs.Queries.{quantifier_of}
use Rattle.query_graph.specs.Words.{said_item}
use Rattle.query_graph.proofs.resolve.quantifiers_of.Given as goal

abbrev pub invariant-loop-item : goal.invariant-loop-item
invariant-loop-item l = all_of (map (quantifier_of l.catalogue) (map said_item (take l.item-index l.items))) ≡ Some l.quantifiers
