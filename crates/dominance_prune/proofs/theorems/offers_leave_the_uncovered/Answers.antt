use Rattle.dominance_prune.proofs.Laws.{run_stands}
use Rattle.dominance_prune.proofs.theorems.offers_leave_the_uncovered.Goals as goal

pub returns : goal.returns
returns g c = run_stands g.T.Ranked.outranks g.met.T.Ranked.reflexive g.met.T.Ranked.transitive
