use Rattle.sb_text.proofs.Laws.{parts-ended, parts-open}
use Rattle.sb_text.proofs.theorems.statements_end_at_semicolons.Goals as goal

pub returns : goal.returns
returns c = record { ended = parts-ended; last = parts-open }
