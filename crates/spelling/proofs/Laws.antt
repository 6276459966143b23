-- The laws that other crates may cite. Each is the clause of a function of the module `theorems`.
pub use Rattle.spelling.proofs.Statements.{one_list, statements_of_tokens}
pub use Rattle.spelling.proofs.WritingLaws.{written-spaced, ended-line, lines-layout, puts-none, puts-more, puts-append, lines-none, lines-more, lines-append, writing}
pub use Rattle.spelling.proofs.PrintedLists.{joined-first}
pub use Rattle.spelling.proofs.LayoutLaws.{statements_of_layout}
pub use Rattle.spelling.proofs.Formed.{formed_statements, layout_again}
pub use Rattle.spelling.proofs.Commented.{layout_behind_comment}
pub use Rattle.spelling.proofs.ReadingLaws.{the_word_reads, the_symbol_reads, a_word_reads, a_number_reads, a_text_reads, then_reads}
pub use Rattle.spelling.proofs.Cut.{own_tokens, own_parts, parts_said, parts_hold, parts_few}
pub use Rattle.spelling.proofs.Shallow.{no_deep_fault}
