use Rattle.std.proofs.Common.{sym}
use Rattle.lolepop.proofs.FitLaws.{leaf_fits}
use Rattle.lolepop.proofs.applying.leaf.Goals as goal

pub returns-clause-fits : goal.returns-clause-fits
returns-clause-fits c =
    rw (c.in_ok-new.ensures.ok, c.leaf.ensures) (leaf_fits c.args.query.now c.args.costs.now c.args.op c.in-Some.props (sym c.in-Some.ensures))
