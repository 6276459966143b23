use Rattle.std.proofs.Common.{Some, sym, ap, ◌∙◌}
use Rattle.query_graph.specs.Queries.{column_of}
use Rattle.query_graph.specs.Words.{said_column}
use Rattle.query_graph.proofs.Resolving.{collected_more, collected_none}
use Rattle.query_graph.proofs.resolve.columns_of.Goals as goal

pub returns-in_default : goal.returns-in_default
returns-in_default c =
    sym (collected_none (column_of c.args.catalogue.now c.args.quantifiers.now) said_column c.args.columns.now c.loop-column.column-index c.column-item.result c.loop-column-test.true c.column-item.is
    (sym c.column_of.ensures ∙ c.in_default.is))

pub loop-column-preserved : goal.loop-column-preserved
loop-column-preserved c =
    collected_more (column_of c.args.catalogue.now c.args.quantifiers.now) said_column c.args.columns.now c.loop-column.column-index c.column-item.result c.loop-column-test.true c.column-item.is
    c.loop-column.found c.in-Some.column c.loop-column.invariant (sym c.column_of.ensures ∙ c.in-Some.is)
    ∙ ap (λ x. Some x) (sym c.in_ok-push.ensures.ok)
