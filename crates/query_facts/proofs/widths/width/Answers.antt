use Rattle.std.proofs.Common.{arith}
use Rattle.query_facts.proofs.WidthSums.{widths_first}
use Rattle.query_facts.proofs.widths.width.Goals as goal

pub loop-quant-init : goal.loop-quant-init
loop-quant-init c = rw c.cut-sum.ensures (omega arith, widths_first c.args.query.now c.args.cols.now)
