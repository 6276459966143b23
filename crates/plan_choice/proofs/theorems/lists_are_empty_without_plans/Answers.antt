use Rattle.plan_choice.proofs.Laws.{none_listed, some_listed}
use Rattle.plan_choice.proofs.theorems.lists_are_empty_without_plans.Goals as goal

pub returns : goal.returns
returns c = record { none = none_listed; some = some_listed }
