use Rattle.std.proofs.Common.{◌<◌, length, Some, true≢false, sym, ap, ◌∙◌, arith}
use Rattle.query_graph.specs.Queries.{column_of}
use Rattle.query_graph.specs.Words.{said_column}
use Rattle.query_graph.proofs.Resolving.{collected_more, collected_none, collected_length, ok_says}
use Rattle.query_graph.proofs.resolve.order_of.Goals as goal

pub returns-in_err-column : goal.returns-in_err-column
returns-in_err-column c =
    c.from_residual.ensures
    ∙ sym (collected_none (column_of c.args.catalogue.now c.args.quantifiers.now) said_column c.args.columns.now c.loop-column.column-index c.column-item.result c.loop-column-test.true c.column-item.is
    (sym c.in_err-column.ensures))

-- there is room for the column
pub returns-in_err-ok : goal.returns-in_err-ok
returns-in_err-ok c =
    let count = collected_length (column_of c.args.catalogue.now c.args.quantifiers.now) said_column c.args.columns.now c.loop-column.column-index c.loop-column.order (omega arith) c.loop-column.invariant in
    let room : length c.loop-column.order < 16 = omega (arith, count, c.requires.short, c.loop-column-test.true) in
    absurd (true≢false (sym (c.try_push.ensures.variant.1 room) ∙ sym c.in_err-ok.ensures.variant))

pub loop-column-preserved : goal.loop-column-preserved
loop-column-preserved c =
    collected_more (column_of c.args.catalogue.now c.args.quantifiers.now) said_column c.args.columns.now c.loop-column.column-index c.column-item.result c.loop-column-test.true c.column-item.is
    c.loop-column.order c.in_ok-column.column c.loop-column.invariant (sym c.in_ok-column.ensures)
    ∙ ap (λ x. Some x) (sym (ok_says c.try_push.result _ c.in_ok-ok.ensures.variant c.try_push.ensures.ok))
