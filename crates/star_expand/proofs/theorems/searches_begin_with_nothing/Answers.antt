use Rattle.star_expand.proofs.Laws.{frontiers_none, closed_none}
use Rattle.star_expand.proofs.theorems.searches_begin_with_nothing.Goals as goal

pub returns : goal.returns
returns c = record { frontiers = frontiers_none; closed = closed_none }
