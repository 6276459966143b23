use Rattle.exchange.proofs.Laws.{best_above, best_derived, best_fit, nothing_is_best}
use Rattle.exchange.proofs.theorems.members_stand_for_what_is_derived.Goals as goal

pub returns : goal.returns
returns c = record { above = best_above; derived = best_derived; fit = best_fit; nothing = nothing_is_best }
