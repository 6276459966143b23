use Rattle.sb_text.proofs.Laws.{longest-word, longest-number, longest-text, longest-symbol}
use Rattle.sb_text.proofs.theorems.token_ends_before_other_bytes.Goals as goal

pub returns : goal.returns
returns c = record { word = longest-word; number = longest-number; text = longest-text; symbol = longest-symbol }
