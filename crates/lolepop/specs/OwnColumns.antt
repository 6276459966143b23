-- The columns that a predicate has in a set of quantifiers.
use Rattle.std.specs.Prelude.{ℕ, List, filter}
use Rattle.star_model.specs.Sets.{has}
use Rattle.star_model.specs.Predicates.{columns_of}
use Rattle.star_model.specs.declared.columns.Col.{Col}
use Rattle.star_model.specs.declared.query.Pred.{Pred}

abbrev pub own_in : ℕ → Pred → List Col
own_in s p = filter (λ c. has s c.quant.0) (columns_of p)
