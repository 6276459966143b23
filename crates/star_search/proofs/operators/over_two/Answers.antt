use Rattle.star_search.proofs.OperatorSets.{binary_made}
use Rattle.star_search.proofs.Sharing.{shared_so}
use Rattle.star_search.proofs.operators.over_two.Goals as goal

pub returns : goal.returns
returns c =
    let s = c.args.search.now in
    shared_so c.in_ok-plans.plans _ c.new.result
    (binary_made s.query.now s.rules.now c.args.flavour c.args.args.now c.args.env.now c.costs-costs.result.now c.operator-op.result c.costs-costs.ensures c.operator-op.ensures c.args.lefts.now c.args.rights.now
    c.in_ok-plans.plans c.in_ok-plans.ensures) c.new.ensures
