use Rattle.spelling.proofs.Laws.{written-spaced, ended-line, lines-layout}
use Rattle.spelling.proofs.theorems.what_is_written_is_in_layout.Goals as goal

pub returns : goal.returns
returns c = record { lexemes = written-spaced; statement = ended-line; text = lines-layout }
