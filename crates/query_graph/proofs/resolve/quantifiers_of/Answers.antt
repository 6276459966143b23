use Rattle.std.proofs.Common.{◌≡◌, length, arith, Some, sym, ap, ◌∙◌}
use Rattle.query_graph.specs.Queries.{quantifier_of}
use Rattle.query_graph.specs.Words.{said_item}
use Rattle.query_graph.proofs.Resolving.{collected_more, collected_none, collected_length}
use Rattle.query_graph.proofs.resolve.quantifiers_of.Goals as goal

pub returns-in_default-clause-found : goal.returns-in_default-clause-found
returns-in_default-clause-found c =
    sym (collected_none (quantifier_of c.args.catalogue.now) said_item c.args.items.now c.loop-item.item-index c.item-item.result c.loop-item-test.true c.item-item.is
    (sym c.in_ok-quantifier.ensures ∙ c.in_default.is))

pub loop-item-preserved : goal.loop-item-preserved
loop-item-preserved c =
    collected_more (quantifier_of c.args.catalogue.now) said_item c.args.items.now c.loop-item.item-index c.item-item.result c.loop-item-test.true c.item-item.is
    c.loop-item.quantifiers c.in-Some.quantifier c.loop-item.invariant (sym c.in_ok-quantifier.ensures ∙ c.in-Some.is)
    ∙ ap (λ x. Some x) (sym c.in_ok-push.ensures.ok)

pub returns-clause-count : goal.returns-clause-count
returns-clause-count c =
    let all : c.loop-item.item-index ≡ length c.args.items.now = omega arith in
    collected_length (quantifier_of c.args.catalogue.now) said_item c.args.items.now c.loop-item.item-index c.loop-item.quantifiers (omega arith) c.loop-item.invariant ∙ all
