use Rattle.query_facts.proofs.Laws.{gathered_none, gathered_more, gathered_same, gathered_all}
use Rattle.query_facts.proofs.theorems.walks_gather_predicates.Goals as goal

pub returns : goal.returns
returns c = record { none = gathered_none; more = gathered_more; same = gathered_same; all = gathered_all }
