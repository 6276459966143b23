use Rattle.std.proofs.Common.{None, Some}
use Rattle.query_graph.proofs.TypeLaws.{first_clash_is}
use Rattle.query_graph.proofs.types.first_clash.Goals as goal

pub returns : goal.returns
returns c = first_clash_is c.args.query.now c.args.query.now.preds (Some c.in_ok-place.place) (rw c.as_slice.ensures at c.in_ok-place.ensures.place)

pub returns-in_err-place : goal.returns-in_err-place
returns-in_err-place c = rw c.from_residual.ensures (first_clash_is c.args.query.now c.args.query.now.preds None (rw c.as_slice.ensures at c.in_err-place.ensures.place))
