use Rattle.star_model.proofs.Laws.{canon_prefix, canon_again}
use Rattle.star_model.proofs.theorems.canonical_orders_keep_prefixes.Goals as goal

pub returns : goal.returns
returns c = record { prefix = canon_prefix; again = canon_again }
