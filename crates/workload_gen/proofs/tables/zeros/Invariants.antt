use Rattle.std.proofs.Common.{◌≡◌, replicate}
use Rattle.workload_gen.proofs.tables.zeros.Given as goal

abbrev pub invariant-loop-zero : goal.invariant-loop-zero
invariant-loop-zero l = l.numbers ≡ replicate l._zero 0
