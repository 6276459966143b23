-- The query with the selectivity of one of its predicates.
use Rattle.std.specs.Prelude.{ℕ, List, slice_get, slice_set}
use Rattle.std.specs.Option.{option_map_or}
use Rattle.star_model.specs.Selectivity.{weighed_pred}
use Rattle.star_model.specs.declared.query.Query.{Query}
use Rattle.star_model.specs.declared.selects.SelectEntry.{SelectEntry}

-- the query itself where it has no predicate at this position
abbrev pub weighed_at : List SelectEntry → Query → ℕ → Query
weighed_at selects q at = option_map_or (λ p. record q { preds = slice_set q.preds at (weighed_pred selects q p) }) (slice_get q.preds at) q
