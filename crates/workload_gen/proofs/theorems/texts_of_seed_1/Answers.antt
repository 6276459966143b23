use Rattle.std.proofs.Common.{refl}
use Rattle.std.specs.Fmt.{digits}
use Rattle.spelling.specs.Layout.{layout}
use Rattle.workload_gen.specs.Draws.{state_of_seed, next_state, value_from, drawn}
use Rattle.workload_gen.specs.Tables.{rows_at, drawn_tables}
use Rattle.workload_gen.proofs.theorems.texts_of_seed_1.Goals as goal

pub returns : goal.returns
unfolding digits layout state_of_seed next_state value_from drawn rows_at drawn_tables
returns c = record { catalogue = refl; query = refl }
