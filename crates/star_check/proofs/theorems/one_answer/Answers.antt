use Rattle.star_check.proofs.Laws.{one_fault, some_answer, accepted_or_refused}
use Rattle.star_check.proofs.theorems.one_answer.Goals as goal

pub returns-clause-one : goal.returns-clause-one
returns-clause-one c = one_fault

pub returns-clause-apart : goal.returns-clause-apart
returns-clause-apart c = accepted_or_refused

pub returns-clause-some : goal.returns-clause-some
returns-clause-some c = some_answer
