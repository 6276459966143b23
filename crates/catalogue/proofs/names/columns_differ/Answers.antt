use Rattle.std.proofs.Common.{arith}
use Rattle.catalogue.specs.declared.words.ColumnWords.{ColumnWords}
use Rattle.catalogue.specs.Known.{column_names}
use Rattle.catalogue.proofs.FirstLaws.{read_at}
use Rattle.catalogue.proofs.DifferLaws.{seen_again, seen_new}
use Rattle.catalogue.proofs.names.columns_differ.Goals as goal

pub returns-then-not-branch : goal.returns-then-not-branch
returns-then-not-branch c =
    seen_again (column_names c.args.columns.now) c.loop-column.seen c.loop-column.column-index c.column-item.result.name c.as_slice.result.now c.in_ok-insert.field-0
    (read_at (λ (d : ColumnWords). d.name) c.args.columns.now c.loop-column.column-index c.column-item.result (omega arith) c.column-item.is)
    c.as_slice.ensures c.loop-column.invariant.0 c.in_ok-insert.ensures.new c.if-not-branch.true

pub loop-column-preserved : goal.loop-column-preserved
loop-column-preserved c =
    seen_new (column_names c.args.columns.now) c.loop-column.seen c.insert.new.self c.loop-column.column-index c.column-item.result.name c.as_slice.result.now c.in_ok-insert.field-0
    (read_at (λ (d : ColumnWords). d.name) c.args.columns.now c.loop-column.column-index c.column-item.result (omega arith) c.column-item.is)
    c.as_slice.ensures c.loop-column.invariant.0 c.in_ok-insert.ensures.new c.if-not-branch.false c.in_ok-insert.ensures.ok c.loop-column.invariant.1
