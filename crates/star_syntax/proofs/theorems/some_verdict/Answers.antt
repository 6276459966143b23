use Rattle.star_syntax.proofs.Laws.{verdict}
use Rattle.star_syntax.proofs.theorems.some_verdict.Goals as goal

pub returns : goal.returns
returns c = verdict
