use Rattle.std.proofs.Common.{◌≡◌, ◌<◌, ◌∙◌, sym, arith, length, drop, None}
use Rattle.std.specs.Prelude.{All}
use Rattle.sb_outside.specs.Records.{record_at}
use Rattle.row_store.specs.Reading.{rows_fault}
use Rattle.row_store.proofs.RowFaults.{few_records, equal_lengths, all_values}
use Rattle.row_store.proofs.table.Table.open.Goals as goal

pub numbers_of-requires-clause-in_range : goal.numbers_of-requires-clause-in_range
numbers_of-requires-clause-in_range c row within place column here =
    let clear : rows_fault c.in-Some.columns.items (length (record_at c.args.raw 0)) 0 (drop 1 c.args.raw) ≡ None =
    rw c.as_slice.ensures.value at (sym c.rows_fault.ensures ∙ c.in_default-rows_fault.is) in
    let in_header : All (λ column. column.place < length (record_at c.args.raw 0)) c.as_slice-2.result.now =
    rw c.as_slice-2.ensures.value (rw c.in-Some.is at c.in_ok-columns.ensures.in_range) in
    rw (equal_lengths c.in-Some.columns.items c.args.raw (omega arith) clear row within) (in_header place column here)

pub numbers_of-requires-clause-values : goal.numbers_of-requires-clause-values
numbers_of-requires-clause-values c =
    let clear : rows_fault c.in-Some.columns.items (length (record_at c.args.raw 0)) 0 (drop 1 c.args.raw) ≡ None =
    rw c.as_slice.ensures.value at (sym c.rows_fault.ensures ∙ c.in_default-rows_fault.is) in
    rw c.as_slice-2.ensures.value (all_values c.in-Some.columns.items c.args.raw (omega arith) clear)

pub invariant_of-result : goal.invariant_of-result
invariant_of-result c =
    let clear : rows_fault c.in-Some.columns.items (length (record_at c.args.raw 0)) 0 (drop 1 c.args.raw) ≡ None =
    rw c.as_slice.ensures.value at (sym c.rows_fault.ensures ∙ c.in_default-rows_fault.is) in
    record {
      header = omega arith;
      few_rows = few_records c.in-Some.columns.items c.args.raw (omega arith) clear;
      few_columns = omega (arith, rw c.in-Some.is at c.in_ok-columns.ensures.count);
      in_range = rw c.in-Some.is at c.in_ok-columns.ensures.in_range;
      lengths = equal_lengths c.in-Some.columns.items c.args.raw (omega arith) clear;
      numbers = rw c.as_slice-2.ensures.value at c.in_ok-numbers.ensures;
    }
