use Rattle.std.proofs.Common.{◌<◌, ◌+◌, [], ◌∷◌, length, ◌∙◌, sym, ap, Some}
use Rattle.star_model.specs.Data.{header_of}
use Rattle.sb_outside.specs.Records.{record_at}
use Rattle.row_store.specs.declared.header.Column.{Column}
use Rattle.row_store.specs.Columns.{column_in}
use Rattle.row_store.proofs.Collected.{collected_more, collected_none}
use Rattle.std.proofs.lemmas.List.{length-append}
use Rattle.std.proofs.lemmas.List.Elements.{All-push}
use Rattle.row_store.proofs.header.columns_of.Goals as goal

pub returns-in_default-clause-columns : goal.returns-in_default-clause-columns
returns-in_default-clause-columns c =
    sym (collected_none (column_in (header_of (record_at c.args.raw.now 0))) c.args.definition.now.columns c.loop-column.column-index c.column-item.result (rw c.as_slice-column-items.ensures at c.loop-column-test.true) (rw c.as_slice-column-items.ensures at c.column-item.is)
    (sym c.column_of.ensures.column ∙ c.in_default.is))

pub loop-column-preserved : goal.loop-column-preserved
loop-column-preserved c = record {
  found = collected_more (column_in (header_of (record_at c.args.raw.now 0))) c.args.definition.now.columns c.loop-column.column-index c.column-item.result (rw c.as_slice-column-items.ensures at c.loop-column-test.true) (rw c.as_slice-column-items.ensures at c.column-item.is)
      c.loop-column.columns.items c.in-Some.column c.loop-column.invariant.found (sym c.column_of.ensures.column ∙ c.in-Some.is)
      ∙ ap (λ x. Some x) (sym c.in_ok-push.ensures.items);
  in_range = rw c.in_ok-push.ensures.items (All-push (λ (column : Column). column.place < length (record_at c.args.raw.now 0)) c.loop-column.columns.items c.in-Some.column c.loop-column.invariant.in_range c.in-Some.ensures.in_range);
  count = ap length c.in_ok-push.ensures.items ∙ length-append c.loop-column.columns.items (c.in-Some.column ∷ []) ∙ ap (λ n. n + 1) c.loop-column.invariant.count;
}
