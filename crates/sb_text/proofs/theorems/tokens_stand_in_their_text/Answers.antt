use Rattle.sb_text.proofs.Laws.{tokens-lexed, order-lexed, length-lexed, stops-lexed}
use Rattle.sb_text.proofs.theorems.tokens_stand_in_their_text.Goals as goal

pub returns : goal.returns
returns c = record { each = tokens-lexed; order = order-lexed; count = length-lexed; stop = stops-lexed }
