use Rattle.workload_gen.proofs.Laws.{accepts_catalogue, accepts_query}
use Rattle.workload_gen.proofs.theorems.texts_are_accepted.Goals as goal

pub returns : goal.returns
returns c = record { catalogue = accepts_catalogue; query = accepts_query }
