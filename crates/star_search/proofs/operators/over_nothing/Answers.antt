use Rattle.star_search.proofs.OperatorSets.{leaf_made}
use Rattle.star_search.proofs.Sharing.{shared_so}
use Rattle.star_search.proofs.operators.over_nothing.Goals as goal

pub returns : goal.returns
returns c =
    let s = c.args.search.now in
    shared_so c.in_ok-plans.plans _ c.new.result
    (leaf_made s.query.now s.rules.now c.args.flavour c.args.args.now c.args.env.now c.costs.result.now c.operator-op.result c.costs.ensures c.operator-op.ensures c.in_ok-plans.plans c.in_ok-plans.ensures) c.new.ensures
