use Rattle.std.proofs.Common.{Some, sym, ap, ◌∙◌}
use Rattle.query_graph.specs.Queries.{predicate_of}
use Rattle.query_graph.specs.Words.{said_comparison}
use Rattle.query_graph.proofs.Resolving.{collected_more, collected_none, great_at}
use Rattle.query_graph.proofs.resolve.predicates_of.Goals as goal

pub predicate_of-requires-clause-small : goal.predicate_of-requires-clause-small
predicate_of-requires-clause-small c = λ great. c.requires.small (great_at c.args.comparisons.now c.loop-comparison.comparison-index c.comparison-item.result c.loop-comparison-test.true c.comparison-item.is great)

pub returns-in_default : goal.returns-in_default
returns-in_default c =
    sym (collected_none (predicate_of c.args.catalogue.now c.args.quantifiers.now) said_comparison c.args.comparisons.now c.loop-comparison.comparison-index c.comparison-item.result c.loop-comparison-test.true c.comparison-item.is
    (sym c.in_ok-predicate.ensures ∙ c.in_default.is))

pub loop-comparison-preserved : goal.loop-comparison-preserved
loop-comparison-preserved c =
    collected_more (predicate_of c.args.catalogue.now c.args.quantifiers.now) said_comparison c.args.comparisons.now c.loop-comparison.comparison-index c.comparison-item.result c.loop-comparison-test.true c.comparison-item.is
    c.loop-comparison.predicates c.in-Some.predicate c.loop-comparison.invariant (sym c.in_ok-predicate.ensures ∙ c.in-Some.is)
    ∙ ap (λ x. Some x) (sym c.in_ok-push.ensures.ok)
