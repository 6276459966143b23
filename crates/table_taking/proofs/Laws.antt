-- The laws that other crates may cite. Each is the clause of a function of the module `theorems`.
pub use Rattle.table_taking.proofs.TableLaws.{few_tables, tables_hold, told_not_refused, one_line, no_rows}
