use Rattle.plan_choice.proofs.Laws.{root_derivations_exist}
use Rattle.plan_choice.proofs.theorems.root_derivations_exist.Goals as goal

pub returns : goal.returns
returns c = root_derivations_exist
