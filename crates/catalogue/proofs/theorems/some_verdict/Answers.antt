use Rattle.catalogue.proofs.Laws.{verdict}
use Rattle.catalogue.proofs.theorems.some_verdict.Goals as goal

pub returns : goal.returns
returns c = verdict
