use Rattle.std.proofs.Common.{◌≡◌, take}
use Rattle.lolepop.specs.UsedColumns.{used_among}
use Rattle.lolepop.proofs.results.used_among.Given as goal

abbrev pub invariant-loop-column : goal.invariant-loop-column
invariant-loop-column l = l.found ≡ used_among l.query l.fn.tables (take l.column-index l.list)
