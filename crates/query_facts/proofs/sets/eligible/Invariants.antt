use Rattle.std.proofs.Common.{◌≡◌}
use Rattle.star_model.specs.Predicates.{lies_in}
use Rattle.query_facts.specs.GatheredPredicates.{gathered}
use Rattle.query_facts.proofs.sets.eligible.Given as goal

abbrev pub invariant-loop-n : goal.invariant-loop-n
invariant-loop-n l = l.found ≡ gathered l.query.preds (lies_in l.tables) l.n
