use Rattle.dominance_prune.proofs.Laws.{above_same}
use Rattle.dominance_prune.proofs.theorems.members_are_covered_by_themselves_alone.Goals as goal

pub returns : goal.returns
returns g c = above_same g.T.Ranked.outranks
