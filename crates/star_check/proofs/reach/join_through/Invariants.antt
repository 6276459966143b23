use Rattle.std.proofs.Common.{◌≡◌, ◌++◌, map, take, drop}
use Rattle.star_check.specs.Reaching.{joined}
use Rattle.star_check.proofs.reach.join_through.Given as goal

abbrev pub invariant-loop-i : goal.invariant-loop-i
invariant-loop-i l = l.rows ≡ map (λ row. joined row l.through l.via) (take l.i l.initial.rows) ++ drop l.i l.initial.rows
