use Rattle.std.proofs.Common.{refl}
use Rattle.workload_gen.specs.Draws.{state_of_seed, next_state, value_from}
use Rattle.workload_gen.proofs.theorems.seed_1_begins.Goals as goal

pub returns : goal.returns
unfolding state_of_seed next_state value_from
returns c = refl
