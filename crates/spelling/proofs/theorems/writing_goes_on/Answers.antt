use Rattle.spelling.proofs.Laws.{puts-none, puts-more, puts-append, lines-none, lines-more, lines-append}
use Rattle.spelling.proofs.theorems.writing_goes_on.Goals as goal

pub returns : goal.returns
returns c = record { none = puts-none; more = puts-more; append = puts-append; no_lines = lines-none; more_lines = lines-more; append_lines = lines-append }
