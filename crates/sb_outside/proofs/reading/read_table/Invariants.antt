use Rattle.std.proofs.Common.{◌<◌}
use Rattle.sb_outside.proofs.RowsRead.{HasRead}
use Rattle.sb_outside.proofs.reading.read_table.Given as goal

abbrev pub invariant-loop-row : goal.invariant-loop-row
invariant-loop-row l = (0 < l.row-iterator.left) × HasRead l.row-iterator.rdr l.fn.bytes l.table
