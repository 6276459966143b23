use Rattle.star_model.proofs.Laws.{earlier_by_canon, sorted_by_canon, compared_by_canon}
use Rattle.star_model.proofs.theorems.canonical_orders_sort_alike.Goals as goal

pub returns : goal.returns
returns c = record { earlier = earlier_by_canon; sorted = sorted_by_canon; compared = compared_by_canon }
