use Rattle.spelling.proofs.Laws.{own_tokens, own_parts}
use Rattle.spelling.proofs.theorems.texts_have_their_tokens.Goals as goal

pub returns : goal.returns
returns c = record { tokens = own_tokens; parts = own_parts }
