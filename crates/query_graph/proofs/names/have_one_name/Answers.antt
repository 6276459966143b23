use Rattle.std.proofs.Common.{◌+◌, take, ap, ◌∙◌}
use Rattle.star_model.specs.Vectors.{same_numbers}
use Rattle.star_model.specs.WellFormed.{differ}
use Rattle.query_graph.specs.Queries.{quantifier_name}
use Rattle.query_graph.specs.Words.{said_item}
use Rattle.query_graph.proofs.Repeats.{names_of, names_of-more, one_name_more, second, twice}
use Rattle.query_graph.proofs.names.have_one_name.Goals as goal

pub returns-then-not-is_new : goal.returns-then-not-is_new
returns-then-not-is_new c =
    let before = names_of (take c.loop-item.item-index c.args.items.now) in
    let name = quantifier_name (said_item c.item-item.result) in
    twice c.args.items.now (c.loop-item.item-index + 1)
    (ap (differ same_numbers) (names_of-more c.args.items.now c.loop-item.item-index c.item-item.result c.loop-item-test.true c.item-item.is)
    ∙ second c.loop-item.names.keys c.quantifier_name.result before name c.in_ok-is_new.is_new c.quantifier_name.ensures c.loop-item.invariant.held c.loop-item.invariant.differ c.in_ok-is_new.ensures.added
    ∙ c.if-not-is_new.true)

pub loop-item-preserved : goal.loop-item-preserved
loop-item-preserved c =
    let before = names_of (take c.loop-item.item-index c.args.items.now) in
    let name = quantifier_name (said_item c.item-item.result) in
    let more = names_of-more c.args.items.now c.loop-item.item-index c.item-item.result c.loop-item-test.true c.item-item.is in record {
      held = λ n. rw (c.in_ok-is_new.ensures.keys, more) (one_name_more c.loop-item.names.keys c.quantifier_name.result before name c.quantifier_name.ensures c.loop-item.invariant.held n);
      differ = ap (differ same_numbers) more
          ∙ second c.loop-item.names.keys c.quantifier_name.result before name c.in_ok-is_new.is_new c.quantifier_name.ensures c.loop-item.invariant.held c.loop-item.invariant.differ c.in_ok-is_new.ensures.added
          ∙ c.if-not-is_new.false;
    }
