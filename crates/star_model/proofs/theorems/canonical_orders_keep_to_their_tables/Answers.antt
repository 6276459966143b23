use Rattle.star_model.proofs.Laws.{canon_within}
use Rattle.star_model.proofs.theorems.canonical_orders_keep_to_their_tables.Goals as goal

pub returns : goal.returns
returns c = canon_within
