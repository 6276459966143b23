use Rattle.dominance_prune.proofs.AntichainLaws.{IsAntichain-answered}
use Rattle.dominance_prune.proofs.OfferLaws.{Gathers-result}
use Rattle.dominance_prune.proofs.plan_set.PlanSet.offer.Goals as goal

pub invariant_of-self : goal.invariant_of-self
invariant_of-self g c = IsAntichain-answered g.T.Ranked.outranks _ c.args.item _ c.offer.result c.offer.ensures.answered c.offer.ensures.memory c.self.invariant

pub returns-clause-gathered : goal.returns-clause-gathered
returns-clause-gathered g c =
    rw (← c.self.view_is) (Gathers-result g.T.Ranked.outranks g.met.T.Ranked.reflexive g.met.T.Ranked.transitive _ c.args.item _ c.offer.result c.offer.ensures.answered)
