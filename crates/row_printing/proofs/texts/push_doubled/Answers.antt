use Rattle.std.proofs.Common.{arith}
use Rattle.row_printing.proofs.Doubling.{byte_more}
use Rattle.row_printing.proofs.texts.push_doubled.Goals as goal

pub loop-byte-preserved : goal.loop-byte-preserved
loop-byte-preserved c = byte_more _ _ _ c.args.bytes.now c.loop-byte.byte-index (omega arith) c.loop-byte.invariant c.in_ok-push_byte.ensures
