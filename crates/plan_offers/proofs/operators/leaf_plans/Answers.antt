use Rattle.plan_offers.proofs.Offering.{frontier_of}
use Rattle.plan_offers.proofs.operators.leaf_plans.Goals as goal

pub returns : goal.returns
returns c = frontier_of _ _ _ c.new-out.ensures c.in_ok-offer_leaf.ensures c.apart.ensures
