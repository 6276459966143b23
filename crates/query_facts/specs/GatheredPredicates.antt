-- The predicates that a walk over a query's predicates has gathered.
use Rattle.std.specs.Prelude.{ℕ, Bool, false, ◌&&◌, nat_lt, List, slice_get}
use Rattle.std.specs.Option.{option_map_or}
use Rattle.star_model.specs.Sets.{set_of}
use Rattle.star_model.specs.declared.query.Pred.{Pred}

-- whether the n-th is there and passes
abbrev pub passes_at : List Pred → (Pred → Bool) → ℕ → Bool
passes_at preds test n = option_map_or test (slice_get preds n) false

-- those of the first k that pass
abbrev pub gathered : List Pred → (Pred → Bool) → ℕ → ℕ
gathered preds test k = set_of (λ n. nat_lt n k && passes_at preds test n)
