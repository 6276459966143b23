use Rattle.row_store.proofs.Laws.{less_is, equal_is, stands_less}
use Rattle.row_store.proofs.theorems.values_compare_as_in_answers.Goals as goal

pub returns : goal.returns
returns c = record { less = less_is; same = equal_is; before = stands_less }
