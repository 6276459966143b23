use Rattle.std.proofs.Common.{◌≡◌, ◌&&◌, ◌||◌, not}
use Rattle.std.specs.List.{list_all, list_any}
use Rattle.star_model.specs.Sets.{has}
use Rattle.star_model.specs.Vectors.{same_column}
use Rattle.star_model.specs.Predicates.{touches, columns_of}
use Rattle.query_facts.specs.GatheredPredicates.{gathered}
use Rattle.star_value.proofs.predicates.indexable.Given as goal

abbrev pub invariant-loop-n : goal.invariant-loop-n
invariant-loop-n l = l.found ≡ gathered l.query.preds (λ p. touches l.tables p && list_all (λ c. not (has l.tables c.quant.0) || list_any (same_column c) l.columns) (columns_of p)) l.n
