-- The laws that other crates may cite. Each is the clause of a function of the module `theorems`.
pub use Rattle.row_store.proofs.OneFault.{one_fault, one_or_none}
pub use Rattle.row_store.proofs.RowsRead.{clear_rows_are, rows_loaded}
pub use Rattle.row_store.proofs.RowTypes.{rows_fit}
pub use Rattle.row_store.proofs.OneIndex.{one_index, stands_less}
pub use Rattle.row_store.proofs.ValueOrder.{value_total, equal_values, equal_rows, less_is, equal_is}
