use Rattle.sb_text.proofs.Laws.{token_at-longest, token_at-none}
use Rattle.sb_text.proofs.theorems.longest_token_is_found.Goals as goal

pub returns : goal.returns
returns c = record { found = token_at-longest; none = token_at-none }
