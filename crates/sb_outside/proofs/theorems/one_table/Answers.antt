use Rattle.sb_outside.proofs.Laws.{one_table}
use Rattle.sb_outside.proofs.theorems.one_table.Goals as goal

pub returns : goal.returns
returns c = one_table
