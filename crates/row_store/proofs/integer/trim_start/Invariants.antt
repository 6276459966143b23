use Rattle.std.proofs.Common.{◌≡◌, drop}
use Rattle.star_model.specs.Data.{without_leading_spaces}
use Rattle.row_store.proofs.integer.trim_start.Given as goal

abbrev pub invariant-loop-start : goal.invariant-loop-start
invariant-loop-start l = without_leading_spaces (drop l.start l.bytes) ≡ without_leading_spaces l.bytes
