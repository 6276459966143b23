-- The columns of an index that a query uses.
use Rattle.std.specs.Prelude.{ℕ, List}
use Rattle.star_model.specs.Columns.{Columns}
use Rattle.star_model.specs.Operators.{stand_in}
use Rattle.star_model.specs.Predicates.{used}
use Rattle.star_model.specs.declared.columns.Col.{Col}
use Rattle.star_model.specs.declared.query.Query.{Query}

-- the columns of the list that the query uses, of the set's quantifiers
unfoldable pub used_among : Query → ℕ → List Col → Columns
used_among q s list = stand_in (used q s) list
