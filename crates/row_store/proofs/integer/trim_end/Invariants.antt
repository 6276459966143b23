use Rattle.std.proofs.Common.{◌≡◌, take, reverse}
use Rattle.star_model.specs.Data.{without_leading_spaces}
use Rattle.row_store.proofs.integer.trim_end.Given as goal

abbrev pub invariant-loop-last : goal.invariant-loop-last
invariant-loop-last l = without_leading_spaces (reverse (take l.last l.bytes)) ≡ without_leading_spaces (reverse l.bytes)
