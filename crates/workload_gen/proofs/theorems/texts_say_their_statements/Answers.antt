use Rattle.workload_gen.proofs.Laws.{catalogue_says, query_says}
use Rattle.workload_gen.proofs.theorems.texts_say_their_statements.Goals as goal

pub returns : goal.returns
returns c = record { catalogue = catalogue_says; query = λ seed size is. query_says size is }
