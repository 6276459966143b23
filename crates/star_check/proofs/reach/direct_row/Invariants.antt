use Rattle.std.proofs.Common.{◌≡◌, ℕ, nat_lt}
use Rattle.std.specs.Prelude.{◌&&◌}
use Rattle.star_model.specs.Sets.{has}
use Rattle.star_check.specs.Reaching.{refers_to}
use Rattle.star_check.proofs.reach.direct_row.Given as goal

abbrev pub invariant-loop-position : goal.invariant-loop-position
invariant-loop-position l = (k : ℕ) → has l.row k ≡ (nat_lt k l.position && refers_to l.stars l.star k)
