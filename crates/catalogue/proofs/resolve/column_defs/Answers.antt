use Rattle.std.proofs.Common.{arith}
use Rattle.catalogue.proofs.Resolved.{small_column}
use Rattle.catalogue.proofs.resolve.column_defs.Goals as goal

pub column_def-requires : goal.column_def-requires
column_def-requires c = small_column c.args.columns.now c.loop-column.column-index c.column-item.result c.requires (omega arith) c.column-item.is
