use Rattle.glue.proofs.Laws.{each_chain_is_listed}
use Rattle.glue.proofs.theorems.chains_are_few.Goals as goal

pub returns : goal.returns
returns c = each_chain_is_listed
