use Rattle.std.proofs.Common.{length}
use Rattle.plan_check.proofs.chains.+chain_vector.Given as goal

abbrev pub decreases-chain_vector : goal.decreases-chain_vector
decreases-chain_vector l = length l.words.now
