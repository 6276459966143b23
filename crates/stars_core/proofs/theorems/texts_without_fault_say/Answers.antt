use Rattle.stars_core.proofs.Laws.{three_pass, says_case}
use Rattle.stars_core.proofs.theorems.texts_without_fault_say.Goals as goal

pub returns : goal.returns
returns c = record { pass = three_pass; say = says_case }
