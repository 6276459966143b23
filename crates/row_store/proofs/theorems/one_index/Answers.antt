use Rattle.row_store.proofs.Laws.{one_index}
use Rattle.row_store.proofs.theorems.one_index.Goals as goal

pub returns : goal.returns
returns c = one_index
