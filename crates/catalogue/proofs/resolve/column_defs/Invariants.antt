use Rattle.std.proofs.Common.{◌≡◌, map, take}
use Rattle.catalogue.specs.Words.{column_of}
use Rattle.catalogue.proofs.resolve.column_defs.Given as goal

abbrev pub invariant-loop-column : goal.invariant-loop-column
invariant-loop-column l = l.defs ≡ map column_of (take l.column-index l.columns)
