use Rattle.std.proofs.Common.{◌≡◌, true, take}
use Rattle.star_model.specs.Vectors.{same_numbers}
use Rattle.star_model.specs.WellFormed.{differ}
use Rattle.catalogue.proofs.names.names_differ.Given as goal

abbrev pub invariant-loop-name : goal.invariant-loop-name
invariant-loop-name l = (l.seen ≡ take l.name-index l.names) × (differ same_numbers (take l.name-index l.names) ≡ true)
