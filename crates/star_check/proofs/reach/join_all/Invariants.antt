use Rattle.std.proofs.Common.{◌≡◌}
use Rattle.star_check.specs.Reaching.{joined_below}
use Rattle.star_check.proofs.reach.join_all.Given as goal

abbrev pub invariant-loop-through : goal.invariant-loop-through
invariant-loop-through l = l.rows ≡ joined_below l.through l.initial.rows
