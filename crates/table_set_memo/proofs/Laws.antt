-- The laws that other crates may cite. Each is the clause of a function of the module `theorems`.
pub use Rattle.table_set_memo.proofs.MemoLaws.{plans_at-listed, plans_at-push_old, plans_at-push_new, plans_at-push_cases}
