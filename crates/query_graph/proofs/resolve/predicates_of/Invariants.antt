use Rattle.std.proofs.Common.{◌≡◌, map, take, Some}
use Rattle.spelling.specs.Names.{all_of}
use Rattle.query_graph.specs.Queries.{predicate_of}
use Rattle.query_graph.specs.Words.{said_comparison}
use Rattle.query_graph.proofs.resolve.predicates_of.Given as goal

abbrev pub invariant-loop-comparison : goal.invariant-loop-comparison
invariant-loop-comparison l = all_of (map (predicate_of l.catalogue l.quantifiers) (map said_comparison (take l.comparison-index l.comparisons))) ≡ Some l.predicates
