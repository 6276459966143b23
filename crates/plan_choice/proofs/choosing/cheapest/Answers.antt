use Rattle.std.proofs.Common.{append_assoc}
use Rattle.std.proofs.lemmas.List.{map-append}
use Rattle.plan_choice.proofs.Cheapest.{cheapest_push}
use Rattle.plan_choice.proofs.choosing.cheapest.Goals as goal

pub loop-entry-preserved : goal.loop-entry-preserved
loop-entry-preserved c = record {
  all = rw (map-append, append_assoc) (rw (← c.in-Some.ensures.steps) c.loop-entry.invariant.all);
  best = rw map-append (cheapest_push _ c.in-Some.entry.now c.cheaper.result.now _ c.loop-entry.invariant.best c.cheaper.ensures.first c.cheaper.ensures.second c.cheaper.ensures.one);
}
