use Rattle.spelling.proofs.ReadingLaws.{the_word_reads, the_symbol_reads, a_word_reads, a_number_reads, a_text_reads}
use Rattle.spelling.proofs.theorems.readers_read.Goals as goal

pub returns : goal.returns
returns c = record { the_word = the_word_reads; the_symbol = the_symbol_reads; a_word = a_word_reads; a_number = a_number_reads; a_text = a_text_reads }
