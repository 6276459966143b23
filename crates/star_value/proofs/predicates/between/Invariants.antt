use Rattle.std.proofs.Common.{◌≡◌, ◌&&◌}
use Rattle.star_model.specs.Sets.{union}
use Rattle.star_model.specs.Predicates.{touches, lies_in}
use Rattle.query_facts.specs.GatheredPredicates.{gathered}
use Rattle.star_value.proofs.predicates.between.Given as goal

abbrev pub invariant-loop-n : goal.invariant-loop-n
invariant-loop-n l = l.found ≡ gathered l.query.preds (λ p. touches l.left p && touches l.right p && lies_in (union l.left l.right) p) l.n
