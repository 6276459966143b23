use Rattle.row_store.proofs.Laws.{value_total, equal_values, equal_rows}
use Rattle.row_store.proofs.theorems.values_are_in_order.Goals as goal

pub returns : goal.returns
returns c = record { total = value_total; equal = equal_values; lists = equal_rows }
