use Rattle.std.proofs.Common.{◌≡◌, length}
use Rattle.star_model.specs.Selectivity.{weighed}
use Rattle.query_facts.proofs.WeighingWalks.{weighed_from}
use Rattle.query_facts.proofs.weighing.weigh.Given as goal

abbrev pub invariant-loop-at : goal.invariant-loop-at
invariant-loop-at l = (weighed_from l.selects l.query l.at ≡ weighed l.selects l.initial.query) × (length l.query.preds ≡ length l.initial.query.preds)
