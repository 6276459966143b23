use Rattle.std.proofs.Common.{◌≡◌}
use Rattle.star_model.specs.Meaning.{is_equality}
use Rattle.query_facts.specs.GatheredPredicates.{gathered}
use Rattle.star_value.proofs.predicates.equalities.Given as goal

abbrev pub invariant-loop-n : goal.invariant-loop-n
invariant-loop-n l = l.found ≡ gathered l.query.preds is_equality l.n
