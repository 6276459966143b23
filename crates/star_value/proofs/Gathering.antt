-- The laws by which a walk gathers a set of predicates.
use Rattle.query_facts.proofs.Laws.{gathered_none, gathered_more, gathered_same, gathered_all}

pub ruleset gathering = (gathered_none, gathered_more, gathered_same, gathered_all)
