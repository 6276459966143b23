use Rattle.std.proofs.Common.{arith}
use Rattle.row_printing.proofs.RowReading.{whole_from}
use Rattle.row_printing.proofs.rows.whole.Goals as goal

pub returns : goal.returns
returns c = whole_from _ _ c.loop-quant.invariant.long (λ k l. c.loop-quant.invariant.laid k (omega arith))
