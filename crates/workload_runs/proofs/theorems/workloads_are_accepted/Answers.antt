use Rattle.workload_runs.proofs.Laws.{workload_says, short_rules, short_catalogue, short_query}
use Rattle.workload_runs.proofs.theorems.workloads_are_accepted.Goals as goal

pub returns : goal.returns
returns c = record { says = workload_says; rules = λ seed size is. short_rules; catalogue = short_catalogue; query = λ seed size is. short_query size is.1 }
