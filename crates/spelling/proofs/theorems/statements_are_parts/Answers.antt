use Rattle.spelling.proofs.Laws.{parts_said, parts_hold, parts_few}
use Rattle.spelling.proofs.theorems.statements_are_parts.Goals as goal

pub returns-clause-said : goal.returns-clause-said
returns-clause-said c = parts_said

pub returns-clause-tokens : goal.returns-clause-tokens
returns-clause-tokens c = parts_hold

pub returns-clause-count : goal.returns-clause-count
returns-clause-count c = parts_few
