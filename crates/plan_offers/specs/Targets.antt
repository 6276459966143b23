-- The target of a goal.
use Rattle.std.specs.Prelude.{Bool, ◌&&◌, nat_eq}
use Rattle.star_model.specs.Sets.{union}
use Rattle.star_model.specs.Predicates.{eligible, used}
use Rattle.star_model.specs.Vectors.{same_numbers}
use Rattle.star_model.specs.declared.query.Query.{Query}
use Rattle.star_model.specs.declared.plans.Goal.{Goal}
use Rattle.star_model.specs.declared.plans.Props.{Props}
use Rattle.plan_offers.specs.declared.target.Target.{Target}

abbrev pub target_of : Query → Goal → Target
target_of q goal = record { goal = goal; cols = used q goal.tables; preds = union (eligible q goal.tables) goal.pushed }

-- whether a vector's tables, columns and predicates are the target's; of `target_of q goal` this is `is_target q goal.tables goal.pushed`
abbrev pub meets_target : Target → Props → Bool
meets_target t v = nat_eq v.tables t.goal.tables && same_numbers v.cols t.cols && nat_eq v.preds t.preds
