-- Goals of a query, and the target of a goal.
use Rattle.std.specs.Prelude.{◌≡◌, ℕ, ◌^◌, ◌<◌, Bool, true, ◌&&◌, nat_eq}
use Rattle.star_model.specs.Sets.{union, is_within}
use Rattle.star_model.specs.Predicates.{eligible, crossing, used, all_quants}
use Rattle.star_model.specs.Vectors.{same_numbers}
use Rattle.star_model.specs.declared.query.Query.{Query}
use Rattle.star_model.specs.declared.plans.Props.{Props}

-- some of the query's quantifiers, and some of the predicates that touch them and others
pub record IsGoal (q : Query) (tables pushed : ℕ) : Type 0 where
  pub some : 0 < tables
  pub quantifiers : is_within tables (all_quants q) ≡ true
  pub crosses : is_within pushed (crossing q tables) ≡ true
  pub bounds : (tables < 2 ^ 32) × (pushed < 2 ^ 32)

-- whether a vector's tables, columns and predicates are the target of the goal: its quantifiers, their columns that the query
-- names, and their own predicates with the pushed ones
abbrev pub is_target : Query → ℕ → ℕ → Props → Bool
is_target q tables pushed v = nat_eq v.tables tables && same_numbers v.cols (used q tables) && nat_eq v.preds (union (eligible q tables) pushed)
