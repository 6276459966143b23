use Rattle.std.proofs.Common.{◌≡◌}
use Rattle.star_value.proofs.Members.{below}
use Rattle.star_value.proofs.sets.all_quants.Given as goal

abbrev pub invariant-loop-n : goal.invariant-loop-n
invariant-loop-n l = l.found ≡ below l.n
