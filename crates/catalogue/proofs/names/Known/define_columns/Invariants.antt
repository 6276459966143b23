use Rattle.std.proofs.Common.{◌≡◌, take}
use Rattle.catalogue.specs.Known.{with_columns}
use Rattle.catalogue.proofs.names.Known.define_columns.Given as goal

abbrev pub invariant-loop-column : goal.invariant-loop-column
invariant-loop-column l = l.self ≡ record l.fn.self { columns = with_columns l.fn.self.columns l.table (take l.column-index l.columns) }
