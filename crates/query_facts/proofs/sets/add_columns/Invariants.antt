use Rattle.std.proofs.Common.{◌≡◌, fold, take}
use Rattle.query_facts.specs.UsedColumns.{adding}
use Rattle.query_facts.proofs.sets.add_columns.Given as goal

abbrev pub invariant-loop-column : goal.invariant-loop-column
invariant-loop-column l = l.found ≡ fold (adding l.tables) l.fn.found (take l.column-index l.columns)
