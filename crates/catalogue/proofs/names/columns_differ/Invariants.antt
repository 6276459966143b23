use Rattle.std.proofs.Common.{◌≡◌, true, take}
use Rattle.star_model.specs.Vectors.{same_numbers}
use Rattle.star_model.specs.WellFormed.{differ}
use Rattle.catalogue.specs.Known.{column_names}
use Rattle.catalogue.proofs.names.columns_differ.Given as goal

abbrev pub invariant-loop-column : goal.invariant-loop-column
invariant-loop-column l = (l.seen ≡ take l.column-index (column_names l.columns)) × (differ same_numbers (take l.column-index (column_names l.columns)) ≡ true)
