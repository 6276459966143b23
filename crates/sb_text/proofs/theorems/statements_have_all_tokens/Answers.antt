use Rattle.sb_text.proofs.Laws.{flat_map-parts, inside-parts, length-parts, tokens-parts}
use Rattle.sb_text.proofs.theorems.statements_have_all_tokens.Goals as goal

pub returns : goal.returns
returns c = record { joined = flat_map-parts; inside = inside-parts; count = length-parts; each = tokens-parts }
