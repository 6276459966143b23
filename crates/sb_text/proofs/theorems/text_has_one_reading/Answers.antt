use Rattle.sb_text.proofs.Laws.{reading, one_reading}
use Rattle.sb_text.proofs.theorems.text_has_one_reading.Goals as goal

pub returns : goal.returns
returns c = record { one = reading; only = one_reading }
