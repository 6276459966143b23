use Rattle.std.proofs.Common.{◌≡◌, ◌&&◌, not}
use Rattle.star_model.specs.Predicates.{lies_in, touches}
use Rattle.query_facts.specs.GatheredPredicates.{gathered}
use Rattle.query_facts.proofs.sets.crossing.Given as goal

abbrev pub invariant-loop-n : goal.invariant-loop-n
invariant-loop-n l = l.found ≡ gathered l.query.preds (λ p. touches l.tables p && not (lies_in l.tables p)) l.n
