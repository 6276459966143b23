-- Statements that keep the limits on which resolution stands.
use Rattle.std.specs.Prelude.{◌≤◌, length, map}
use Rattle.star_model.specs.Limits.{most_in_order, most_predicates, most_quantifiers}
use Rattle.query_graph.specs.declared.words.QueryWords.{QueryWords}
use Rattle.query_graph.specs.Words.{said_comparison}
use Rattle.query_graph.specs.Faults.{HasGreatConstant}

-- positions of quantifiers fit, and so do constants and the order
pub record Fits (q : QueryWords) : Type 0 where
  pub quantifiers : length q.items ≤ most_quantifiers
  pub predicates : length q.comparisons ≤ most_predicates
  pub order : length q.order ≤ most_in_order
  pub constants : HasGreatConstant (map said_comparison q.comparisons) → ⊥
