use Rattle.std.proofs.Common.{◌≡◌, take}
use Rattle.glue.proofs.chains.chain_of.Given as goal

abbrev pub invariant-loop-i : goal.invariant-loop-i
invariant-loop-i l = l.chain ≡ take l.i l.words
