use Rattle.std.proofs.Common.{◌≡◌, replicate, None}
use Rattle.table_taking.proofs.taking.empty_places.Given as goal

abbrev pub invariant-loop-place : goal.invariant-loop-place
invariant-loop-place l = l.loaded ≡ replicate l._place None
