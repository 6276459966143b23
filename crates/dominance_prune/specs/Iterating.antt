-- Iterators over sets.
use Rattle.std.specs.Prelude.{List}
use Rattle.dominance_prune.specs.declared.plan_set.PlanIter.{PlanIter}

-- the members that are still to come
abbrev pub plan_iter_rest : {T : Type 0} → PlanIter T → List T
plan_iter_rest i = i.members.now
